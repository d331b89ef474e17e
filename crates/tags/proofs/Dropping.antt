-- Laws of attributes that declare a namespace, which are skipped in a loop of their own.
use Rattle.std.proofs.Common.{Result, Ok, Err, ◌≡◌, refl, sym, ap, ◌∙◌, Bool, true, false, List, ◌∷◌, ℕ, suc, ◌+◌, ◌-◌, ◌≤◌, ◌<◌, arith, rules, lt-ltb, le-ltb, ltb, length, drop, get_or, add-one, drop-cons, drop-drop}
use Rattle.texts.specs.declared.Range.{Range}
use Rattle.texts.specs.Text.{ascii, piece, starts_with}
use Rattle.texts.specs.Scan.{scan, until, is}
use Rattle.texts.proofs.Choosing.{pick-by}
use Rattle.texts.proofs.Scanning.{count_past, scan-start, byte-on, byte-stop}
use Rattle.texts.proofs.Comparing.{starts-no}
use Rattle.classes.specs.Class.{is_space, is_attribute_name_end}
use Rattle.refusals.specs.declared.Refusal.{Refusal}
use Rattle.tags.specs.declared.part.RawAttribute.{RawAttribute}
use Rattle.tags.specs.declared.part.TagPart.{TagPart}
use Rattle.tags.specs.declared.part.TagPart.TheVariants.{Attribute as Part, TagEnd}
use Rattle.tags.specs.declared.noting.Notes.{Notes}
use Rattle.tags.specs.Names.{is_xmlns}
use Rattle.elements.specs.Keys.{Keys}
use Rattle.tags.specs.Find.{stands}
use Rattle.tags.specs.Attributes.{raw_name, quoted_at, value_at, attribute_part_at, tag_part_at, Tag, no_tag, with_part, tag_at, last_of, later}
use Rattle.tags.specs.internal.Dropping.{Unchanged, next_of}
use Rattle.tags.proofs.Parting.{attribute-valued, part-attribute}
use Rattle.tags.proofs.Placeless.{any_part}
use Rattle.tags.proofs.Tagging.{part-inside, by_part, within-part, within_end, within-bad, tag-part, Going}
use Rattle.tags.proofs.Looking.{Looking}
use Rattle.tags.proofs.Coding.{LookingAll}

pub passed_none : {doc : List ℕ} {at : ℕ} → Unchanged doc at at
passed_none = record { forward = omega arith; within = λ h. absurd (omega arith); same = λ place. refl }

pub passed-more : {doc : List ℕ} {at i r : ℕ} → Unchanged doc at i → Unchanged doc i r → Unchanged doc at r
passed-more u v =
    record {
      forward = omega (arith, u.forward, v.forward);
      within = λ h. grind (arith, u.within, v.within, u.forward, v.forward);
      same = λ place. v.same place ∙ u.same place;
    }

-- ---- spaces that were passed: a tag is the same from any of them on

scan-within : (p : ℕ → Bool) (s : List ℕ) (at r : ℕ) → at ≤ r → r ≤ scan p s at → scan p s r ≡ scan p s at
scan-within p s at r h l =
    let z : at + (r - at) ≡ r = omega arith in
    let c = count_past p (r - at) (drop at s) (omega arith) in
    let d = rw (drop-drop, z) at c in
    omega (arith, d)

part-same : (doc : List ℕ) (at r place : ℕ) → scan is_space doc r ≡ scan is_space doc at → tag_part_at doc r place ≡ tag_part_at doc at place
unfolding tag_part_at
part-same doc at r place e = rw e refl

tag-same : (doc : List ℕ) (at r place : ℕ) → scan is_space doc r ≡ scan is_space doc at → tag_at doc r place ≡ tag_at doc at place
tag-same doc at r place e =
    let p = part-same doc at r place e in
    rw add-one
    (by_part (tag_part_at doc at place)
    (λ a q. within-part no_tag (length doc) doc r place (p ∙ q) ∙ sym (within-part no_tag (length doc) doc at place q))
    (λ ending q. within_end no_tag (length doc) doc r place (p ∙ q) ∙ sym (within_end no_tag (length doc) doc at place q))
    (λ refusal q. within-bad no_tag (length doc) doc r place (p ∙ q) ∙ sym (within-bad no_tag (length doc) doc at place q)))

pub spaces-passed : {doc : List ℕ} {at i : ℕ} → i ≡ scan is_space doc at → i < length doc → at < i → Unchanged doc at (i - 1)
spaces-passed {doc = doc} {at = at} {i = i} e h l =
    record {
      forward = omega arith;
      within = λ k. omega arith;
      same = λ place. tag-same doc at (i - 1) place (scan-within is_space doc at (i - 1) (omega arith) (omega arith));
    }

-- the next one is nearer to the document's end
pub passed-less : {doc : List ℕ} {i r : ℕ} → Unchanged doc i r → (r ≡ i → ⊥) → length doc - r < length doc - i
passed-less {i = i} {r = r} u n =
    let h : i < r = omega (arith, u.forward, n) in
    omega (arith, u.within h, h)

-- an attribute without what it would add
dropped : (doc : List ℕ) (a : RawAttribute) (rest : Tag) → is_xmlns (raw_name doc a) ≡ true → with_part doc a rest ≡ rest
unfolding with_part
dropped doc a rest x = rw x refl

module _ (doc : List ℕ) (at : ℕ) {i : ℕ} (e : i ≡ scan is_space doc at) (h : i < length doc) (b : get_or doc i 0 ≡ 120) {p : Result TagPart Refusal} (g : p ≡ attribute_part_at doc i 0) where
  part : p ≡ tag_part_at doc at 0
  part =
      let d = drop-cons doc i 0 h ∙ ap (λ x. x ∷ drop (suc i) doc) b in
      part-attribute doc at 0 e h refl (ap (starts_with (ascii ">")) d ∙ starts-no 62 120 _ (drop (suc i) doc) refl) refl (ap (starts_with (ascii "/>")) d ∙ starts-no 47 120 _ (drop (suc i) doc) refl) g

  passed-one : {a : RawAttribute} → p ≡ Ok (Part a) → is_xmlns (raw_name doc a) ≡ true → Unchanged doc at a.next
  passed-one {a} f x =
      let q = sym part ∙ f in
      let z = rw q at (part-inside doc at 0) in
      record {
        forward = omega (arith, z);
        within = λ l. z.3;
        same = λ place. sym (tag-part doc at place (any_part doc at 0 place q) ∙ dropped doc a (tag_at doc a.next place) x);
      }

-- ---- where an attribute ends, and what its name is

-- p is a value's, or a refusal
abbrev NamedBy : Range → Result TagPart Refusal → Type 0
NamedBy name (Ok (Part a)) = a.name ≡ name
NamedBy name (Ok (TagEnd ending)) = Unit {0}
NamedBy name (Err refusal) = Unit {0}

module _ (doc : List ℕ) (name : Range) (place : ℕ) where
  quoted-by : (quote from : ℕ) → NamedBy name (quoted_at quote doc name from place)
  unfolding quoted_at
  quoted-by quote from = pick-by (NamedBy name) (ltb (scan (until (is quote)) doc from) (length doc)) (λ t. refl) (λ f. tt)

  value-by : (from : ℕ) → NamedBy name (value_at doc name from place)
  unfolding value_at
  value-by from =
      pick-by (NamedBy name) (stands "\"" doc from) (λ t. quoted-by 34 (from + 1))
      (λ f. pick-by (NamedBy name) (stands "'" doc from) (λ t. quoted-by 39 (from + 1)) (λ g. tt))

-- its value is due at `from`
module _ (doc : List ℕ) (at from : ℕ) where
  module _ (quote : ℕ) {end : ℕ} (e : end ≡ scan (until (is quote)) doc from) where
    pub quoted-next : end < length doc → (name : Range) → end + 1 ≡ next_of (quoted_at quote doc name from 0) at
    unfolding quoted_at
    quoted-next h name = rw (← e, lt-ltb end (length doc) h)

    pub quoted-none : length doc ≤ end → (name : Range) → at ≡ next_of (quoted_at quote doc name from 0) at
    unfolding quoted_at
    quoted-none h name = rw (← e, le-ltb end (length doc) h)

  -- an empty one, and one of a single byte
  module _ (quote : ℕ) (h : from + 1 < length doc) where
    pub quoted-first : get_or doc from 0 ≡ quote → (name : Range) → from + 1 ≡ next_of (quoted_at quote doc name from 0) at
    quoted-first e = quoted-next quote (byte-stop scan-start (omega arith) e) (omega arith)

    pub quoted-second : (get_or doc from 0 ≡ quote → ⊥) → get_or doc (from + 1) 0 ≡ quote → (name : Range) → from + 2 ≡ next_of (quoted_at quote doc name from 0) at
    quoted-second n e name =
        let d : from + 2 ≡ from + 1 + 1 = omega arith in
        d ∙ quoted-next quote (byte-stop (byte-on scan-start (omega arith) n) h e) h name

  module _ {b : Bool} (e : b ≡ starts_with (ascii "\"") (drop from doc)) where
    pub double-next : b ≡ true → {r : ℕ} → ((name : Range) → r ≡ next_of (quoted_at 34 doc name (from + 1) 0) at) → (name : Range) → r ≡ next_of (value_at doc name from 0) at
    unfolding value_at
    double-next t q name = rw (← e, t) (q name)

    module _ (f : b ≡ false) {c : Bool} (g : c ≡ starts_with (ascii "'") (drop from doc)) where
      pub single-next : c ≡ true → {r : ℕ} → ((name : Range) → r ≡ next_of (quoted_at 39 doc name (from + 1) 0) at) → (name : Range) → r ≡ next_of (value_at doc name from 0) at
      unfolding value_at
      single-next t q name = rw (← e, f, ← g, t) (q name)

      pub value-none : c ≡ false → (name : Range) → at ≡ next_of (value_at doc name from 0) at
      unfolding value_at
      value-none t name = rw (← e, f, ← g, t)

-- the whole of it
module _ (doc : List ℕ) (at : ℕ) {i : ℕ} (e : i ≡ scan is_space doc at) (h : i < length doc) (b : get_or doc i 0 ≡ 120) {end : ℕ} (f : end ≡ scan (until is_attribute_name_end) doc i) (m : end ≡ i → ⊥) {x : Bool} (y : x ≡ is_xmlns (piece doc i (end - i))) (t : x ≡ true) {equals : ℕ} (q : equals ≡ scan is_space doc end) {s : Bool} (u : s ≡ starts_with (ascii "=") (drop equals doc)) (v : s ≡ true) {value : ℕ} (w : value ≡ scan is_space doc (equals + 1)) where
  pub passed-whole : {r : ℕ} → ((name : Range) → r ≡ next_of (value_at doc name value 0) at) → Unchanged doc at r
  passed-whole {r} g =
      let name : Range = record { from = i; len = end - i } in
      let p = value_at doc name value 0 in
      let a : p ≡ attribute_part_at doc i 0 = attribute-valued doc i 0 f m q u v w refl in
      by_part p
      (λ part o.
      let z : part.name ≡ name = rw o at (value-by doc name 0 value) in
      let k : r ≡ part.next = g name ∙ ap (λ c. next_of c at) o in
      rw k (passed-one doc at e h b a o (rw z (sym y ∙ t))))
      (λ ending o. rw (g name ∙ ap (λ c. next_of c at) o) passed_none)
      (λ refusal o. rw (g name ∙ ap (λ c. next_of c at) o) passed_none)

-- ---- the loop over a tag goes on behind them

pub going-past : {doc : List ℕ} {at place i r : ℕ} → Going doc at place i → Unchanged doc i r → Going doc at place r
going-past {place = place} inv u = record { rest = ap (λ (t : Tag). t.ending) (u.same place) ∙ inv.rest }

looking-past : {doc : List ℕ} {at : ℕ} {name : List ℕ} {i r : ℕ} {found : _} → Looking doc at name i found → Unchanged doc i r → Looking doc at name r found
looking-past {name = name} {found = found} inv u = record { rest = ap (λ (t : Tag). later (last_of name t.attributes) found) (u.same 0) ∙ inv.rest }

pub all-past : {doc : List ℕ} {at : ℕ} {k : Keys} {i r : ℕ} {noted : Notes} → LookingAll doc at k i noted → Unchanged doc i r → LookingAll doc at k r noted
all-past inv u =
    record {
      number = looking-past inv.number u;
      name = looking-past inv.name u;
      second = looking-past inv.second u;
      encoding = looking-past inv.encoding u;
    }

pub ruleset dropping = (passed_none, spaces-passed, passed-more, passed-less, quoted-first, quoted-second, quoted-next, quoted-none, double-next, single-next, value-none, passed-whole, rules)
