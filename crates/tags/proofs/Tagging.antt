-- Laws of a whole tag: where its parts lie, that the fuel is enough, and where the tag ends.
use Rattle.tags.specs.declared.part.Ending.{Ending}
use Rattle.std.proofs.Common.{Result, Ok, Err, ◌≡◌, refl, sym, ap, ◌∙◌, true, List, [], ℕ, zero, suc, ◌+◌, ◌-◌, ◌≤◌, ◌<◌, arith, add-one, T, eqb, ltb, leb, length, ltb-true}
use Rattle.texts.specs.declared.Range.{Range}
use Rattle.texts.specs.Text.{ascii}
use Rattle.texts.specs.Scan.{scan, until, is}
use Rattle.texts.proofs.Choosing.{pick-by}
use Rattle.classes.specs.Class.{is_space, is_attribute_name_end}
use Rattle.refusals.specs.declared.Refusal.{Refusal}
use Rattle.tags.specs.declared.part.RawAttribute.{RawAttribute}
use Rattle.tags.specs.declared.part.TagPart.{TagPart}
use Rattle.tags.specs.declared.part.TagPart.TheVariants.{Attribute as Part, TagEnd}
use Rattle.tags.specs.Find.{stands}
use Rattle.tags.specs.Attributes.{quoted_at, value_at, attribute_part_at, tag_part_at, Tag, no_tag, with_part, tag_within, tag_at}
use Rattle.tags.proofs.Searching.{stands-within}

-- ---- a part lies within the document, in its order

abbrev pub Inside : List ℕ → ℕ → Result TagPart Refusal → Type 0
Inside doc at (Ok (Part a)) = (at ≤ a.name.from) × (a.name.from + a.name.len ≤ a.value.from) × (a.value.from + a.value.len < a.next) × (a.next ≤ length doc)
Inside doc at (Ok (TagEnd ending)) = (at < ending.next) × (ending.next ≤ length doc)
Inside doc at (Err refusal) = T true

module _ (doc : List ℕ) (at : ℕ) (name : Range) (h : at ≤ name.from) (place : ℕ) where
  quoted-inside : (quote value : ℕ) → name.from + name.len ≤ value → Inside doc at (quoted_at quote doc name value place)
  unfolding quoted_at
  quoted-inside quote value k =
      let end = scan (until (is quote)) doc value in
      pick-by (Inside doc at) (ltb end (length doc))
      (λ t. (h, k, omega arith, omega (arith, ltb-true end (length doc) t)))
      (λ f. tt)

  value-inside : (due : ℕ) → name.from + name.len ≤ due → Inside doc at (value_at doc name due place)
  unfolding value_at
  value-inside due k =
      pick-by (Inside doc at) (stands "\"" doc due) (λ t. quoted-inside 34 (due + 1) (omega arith))
      (λ f. pick-by (Inside doc at) (stands "'" doc due) (λ t. quoted-inside 39 (due + 1) (omega arith))
      (λ g. tt))

attribute-inside : (doc : List ℕ) (at i place : ℕ) → at ≤ i → Inside doc at (attribute_part_at doc i place)
unfolding attribute_part_at
attribute-inside doc at i place h =
    let end = scan (until is_attribute_name_end) doc i in
    let equals = scan is_space doc end in
    pick-by (Inside doc at) (eqb end i) (λ t. tt)
    (λ f. pick-by (Inside doc at) (stands "=" doc equals) (λ t. value-inside doc at (record { from = i; len = end - i }) h place (scan is_space doc (equals + 1)) (omega arith))
    (λ g. tt))

pub part-inside : (doc : List ℕ) (at place : ℕ) → Inside doc at (tag_part_at doc at place)
unfolding tag_part_at
part-inside doc at place =
    let i = scan is_space doc at in
    pick-by (Inside doc at) (leb (length doc) i) (λ t. tt)
    (λ f. pick-by (Inside doc at) (stands ">" doc i) (λ t. (omega arith, omega (arith, stands-within (ascii ">") doc i t (omega arith))))
    (λ g. pick-by (Inside doc at) (stands "/>" doc i) (λ t. (omega arith, omega (arith, stands-within (ascii "/>") doc i t (omega arith))))
    (λ u. attribute-inside doc at i place (omega arith))))

-- ---- a tag by its first part

pub by_part :
    {X : Type 0} (p : Result TagPart Refusal) →
    ((a : RawAttribute) → p ≡ Ok (Part a) → X) →
    ((ending : Ending) → p ≡ Ok (TagEnd ending) → X) →
    ((refusal : Refusal) → p ≡ Err refusal → X) →
    X
by_part (Ok (Part a)) f g h = f a refl
by_part (Ok (TagEnd ending)) f g h = g ending refl
by_part (Err refusal) f g h = h refusal refl

module _ (x : Tag) (k : ℕ) (doc : List ℕ) (at place : ℕ) where
  pub within-part : {a : RawAttribute} → tag_part_at doc at place ≡ Ok (Part a) → tag_within x (suc k) doc at place ≡ with_part doc a (tag_within x k doc a.next place)
  unfolding tag_within
  within-part e = rw (e, tag_within)

  pub within_end : {ending : Ending} → tag_part_at doc at place ≡ Ok (TagEnd ending) → tag_within x (suc k) doc at place ≡ record { attributes = []; ending = Ok ending }
  unfolding tag_within
  within_end e = rw (e, tag_within)

  pub within-bad : {refusal : Refusal} → tag_part_at doc at place ≡ Err refusal → tag_within x (suc k) doc at place ≡ record { attributes = []; ending = Err refusal }
  unfolding tag_within
  within-bad e = rw (e, tag_within)

-- more fuel changes nothing
enough : (k : ℕ) (doc : List ℕ) (at place : ℕ) → at ≤ length doc → length doc < at + k → tag_within no_tag (suc k) doc at place ≡ tag_within no_tag k doc at place
enough zero doc at place h l = absurd (omega arith)
enough (suc k) doc at place h l =
    by_part (tag_part_at doc at place)
    (λ a e.
    let i = rw e at (part-inside doc at place) in
    within-part no_tag (suc k) doc at place e
    ∙ ap (with_part doc a) (enough k doc a.next place i.3 (omega arith))
    ∙ sym (within-part no_tag k doc at place e))
    (λ ending e. within_end no_tag (suc k) doc at place e ∙ sym (within_end no_tag k doc at place e))
    (λ refusal e. within-bad no_tag (suc k) doc at place e ∙ sym (within-bad no_tag k doc at place e))

module _ (doc : List ℕ) (at place : ℕ) where
  pub tag-part : {a : RawAttribute} → tag_part_at doc at place ≡ Ok (Part a) → tag_at doc at place ≡ with_part doc a (tag_at doc a.next place)
  tag-part {a} e =
      let i = rw e at (part-inside doc at place) in
      let m : tag_within no_tag (suc (length doc)) doc a.next place ≡ tag_within no_tag (length doc) doc a.next place = enough (length doc) doc a.next place i.3 (omega arith) in
      rw (add-one, within-part no_tag (length doc) doc at place e, ← m)

  pub tag-end : {ending : Ending} → tag_part_at doc at place ≡ Ok (TagEnd ending) → tag_at doc at place ≡ record { attributes = []; ending = Ok ending }
  tag-end e = rw add-one (within_end no_tag (length doc) doc at place e)

  pub tag-bad : {refusal : Refusal} → tag_part_at doc at place ≡ Err refusal → tag_at doc at place ≡ record { attributes = []; ending = Err refusal }
  tag-bad e = rw add-one (within-bad no_tag (length doc) doc at place e)

-- ---- the loop over a tag's parts is at i; p is the part there

pub record Going (doc : List ℕ) (at place i : ℕ) : Type 0 where
  pub rest : (tag_at doc i place).ending ≡ (tag_at doc at place).ending

pub going_start : {doc : List ℕ} {at place : ℕ} → Going doc at place at
going_start = record { rest = refl }

-- the next part is nearer to the document's end
pub part-less : (doc : List ℕ) (i place : ℕ) {p : Result TagPart Refusal} → p ≡ tag_part_at doc i place → {a : RawAttribute} → p ≡ Ok (Part a) → length doc - a.next < length doc - i
part-less doc i place e f =
    let z = rw (sym e ∙ f) at (part-inside doc i place) in
    omega arith

-- its value lies in the document
pub part-value : (doc : List ℕ) (i place : ℕ) {p : Result TagPart Refusal} → p ≡ tag_part_at doc i place → {a : RawAttribute} → p ≡ Ok (Part a) → a.value.from < length doc
part-value doc i place e f =
    let z = rw (sym e ∙ f) at (part-inside doc i place) in
    omega arith

module _ {doc : List ℕ} {at place i : ℕ} (inv : Going doc at place i) {p : Result TagPart Refusal} (e : p ≡ tag_part_at doc i place) where
  pub going_on : {a : RawAttribute} → p ≡ Ok (Part a) → Going doc at place a.next
  unfolding with_part
  going_on f = record { rest = ap (λ (t : Tag). t.ending) (sym (tag-part doc i place (sym e ∙ f))) ∙ inv.rest }

  pub going_end : {ending : Ending} → p ≡ Ok (TagEnd ending) → Ok ending ≡ (tag_at doc at place).ending
  going_end f = ap (λ (t : Tag). t.ending) (sym (tag-end doc i place (sym e ∙ f))) ∙ inv.rest

  pub going-bad : {refusal : Refusal} → p ≡ Err refusal → Err refusal ≡ (tag_at doc at place).ending
  going-bad f = ap (λ (t : Tag). t.ending) (sym (tag-bad doc i place (sym e ∙ f))) ∙ inv.rest
