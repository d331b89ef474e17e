-- Laws of one part of a tag, case by case; each premise is the result of a call or a test.
use Rattle.refusals.specs.declared.Refusal.{Refusal}
use Rattle.std.proofs.Common.{Result, Ok, Err, ◌≡◌, Bool, true, false, List, ℕ, ◌+◌, ◌-◌, ◌≤◌, ◌<◌, arith, length, drop, get_or, eq-eqb, ne_eqb, lt-ltb, le-ltb, le-leb}
use borrow.Author.Tests.{lt-leb}
use Rattle.texts.specs.declared.Range.{Range}
use Rattle.texts.specs.Text.{ascii, starts_with}
use Rattle.texts.specs.Scan.{scan, until, is}
use Rattle.texts.proofs.Scanning.{scan-start, byte-on, byte-stop}
use Rattle.classes.specs.Class.{is_space, is_attribute_name_end}
use Rattle.refusals.specs.declared.Refusal.TheVariants.{OpenTag, NoAttributeName, NoEquals, NoQuote, OpenValue}
use Rattle.tags.specs.declared.part.TagPart.{TagPart}
use Rattle.tags.specs.declared.part.TagPart.TheVariants.{TagEnd}
use Rattle.tags.specs.Attributes.{valued, quoted_at, value_at, attribute_part_at, tag_part_at}

-- ---- up to the closing quote

module _ (quote : ℕ) (doc : List ℕ) (name : Range) (at place : ℕ) {end : ℕ} (e : end ≡ scan (until (is quote)) doc at) where
  pub quoted-ends : end < length doc → {r : TagPart} → r ≡ valued name at end → Ok r ≡ quoted_at quote doc name at place
  unfolding quoted_at
  quoted-ends h q = rw (q, ← e, lt-ltb end (length doc) h)

  pub quoted-open : length doc ≤ end → Err (OpenValue at place) ≡ quoted_at quote doc name at place
  unfolding quoted_at
  quoted-open h = rw (← e, le-ltb end (length doc) h)

-- an empty value, and one of a single byte
module _ (quote : ℕ) (doc : List ℕ) (name : Range) (at place : ℕ) (h : at + 1 < length doc) {r : TagPart} where
  pub quoted-empty : get_or doc at 0 ≡ quote → r ≡ valued name at at → Ok r ≡ quoted_at quote doc name at place
  quoted-empty e q = quoted-ends quote doc name at place (byte-stop scan-start (omega arith) e) (omega arith) q

  pub quoted-single : (get_or doc at 0 ≡ quote → ⊥) → get_or doc (at + 1) 0 ≡ quote → r ≡ valued name at (at + 1) → Ok r ≡ quoted_at quote doc name at place
  quoted-single d e q = quoted-ends quote doc name at place (byte-stop (byte-on scan-start (omega arith) d) (omega arith) e) (omega arith) q

-- ---- a quoted value; b and c are the results of the tests for a quote, r is that of the call

module _ (doc : List ℕ) (name : Range) (at place : ℕ) {b : Bool} (e : b ≡ starts_with (ascii "\"") (drop at doc)) where
  pub value-double : b ≡ true → {r : Result TagPart Refusal} → r ≡ quoted_at 34 doc name (at + 1) place → r ≡ value_at doc name at place
  unfolding value_at
  value-double t p = rw (← e, t) p

  module _ (f : b ≡ false) {c : Bool} (g : c ≡ starts_with (ascii "'") (drop at doc)) where
    pub value-single : c ≡ true → {r : Result TagPart Refusal} → r ≡ quoted_at 39 doc name (at + 1) place → r ≡ value_at doc name at place
    unfolding value_at
    value-single t p = rw (← e, f, ← g, t) p

    pub value_none : c ≡ false → Err (NoQuote at place) ≡ value_at doc name at place
    unfolding value_at
    value_none t = rw (← e, f, ← g, t)

-- ---- an attribute

module _ (doc : List ℕ) (at place : ℕ) {end : ℕ} (e : end ≡ scan (until is_attribute_name_end) doc at) where
  pub attribute-unnamed : end ≡ at → Err (NoAttributeName at place) ≡ attribute_part_at doc at place
  unfolding attribute_part_at
  attribute-unnamed h = rw (← e, eq-eqb end at h)

  module _ (h : end ≡ at → ⊥) {equals : ℕ} (q : equals ≡ scan is_space doc end) {b : Bool} (s : b ≡ starts_with (ascii "=") (drop equals doc)) where
    pub attribute-valued : b ≡ true → {value : ℕ} → value ≡ scan is_space doc (equals + 1) → {r : Result TagPart Refusal} → r ≡ value_at doc (record { from = at; len = end - at }) value place → r ≡ attribute_part_at doc at place
    unfolding attribute_part_at
    attribute-valued t v p = rw (← e, ne_eqb end at h, ← q, ← s, t, ← v) p

    pub attribute-bare : b ≡ false → Err (NoEquals equals place) ≡ attribute_part_at doc at place
    unfolding attribute_part_at
    attribute-bare t = rw (← e, ne_eqb end at h, ← q, ← s, t)

-- ---- a part

module _ (doc : List ℕ) (at place : ℕ) {i : ℕ} (e : i ≡ scan is_space doc at) where
  pub part-open : length doc ≤ i → Err (OpenTag i place) ≡ tag_part_at doc at place
  unfolding tag_part_at
  part-open h = rw (← e, le-leb (length doc) i h)

  module _ (h : i < length doc) {b : Bool} (f : b ≡ starts_with (ascii ">") (drop i doc)) where
    pub part_end : b ≡ true → Ok (TagEnd (record { next = i + 1; self_closed = false })) ≡ tag_part_at doc at place
    unfolding tag_part_at
    part_end t = rw (← e, lt-leb (length doc) i h, ← f, t)

    module _ (u : b ≡ false) {c : Bool} (g : c ≡ starts_with (ascii "/>") (drop i doc)) where
      pub part-self-end : c ≡ true → Ok (TagEnd (record { next = i + 2; self_closed = true })) ≡ tag_part_at doc at place
      unfolding tag_part_at
      part-self-end t = rw (← e, lt-leb (length doc) i h, ← f, u, ← g, t)

      pub part-attribute : c ≡ false → {r : Result TagPart Refusal} → r ≡ attribute_part_at doc i place → r ≡ tag_part_at doc at place
      unfolding tag_part_at
      part-attribute t p = rw (← e, lt-leb (length doc) i h, ← f, u, ← g, t) p
