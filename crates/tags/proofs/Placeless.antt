-- Laws: a tag's parts and attributes do not depend on its place, which only refusals hold.
use Rattle.std.proofs.Common.{Result, Ok, Err, ◌≡◌, refl, List, ℕ, zero, suc, ◌+◌, eqb, ltb, leb, length}
use Rattle.texts.specs.declared.Range.{Range}
use Rattle.texts.specs.Scan.{scan, until, is}
use Rattle.texts.proofs.Choosing.{pick-both}
use Rattle.classes.specs.Class.{is_space, is_attribute_name_end}
use Rattle.refusals.specs.declared.Refusal.{Refusal}
use Rattle.tags.specs.declared.part.Ending.{Ending}
use Rattle.tags.specs.declared.part.RawAttribute.{RawAttribute}
use Rattle.tags.specs.declared.part.TagPart.{TagPart}
use Rattle.tags.specs.declared.part.TagPart.TheVariants.{Attribute as Part, TagEnd}
use Rattle.tags.specs.Find.{stands}
use Rattle.tags.specs.Attributes.{quoted_at, value_at, attribute_part_at, tag_part_at, Tag, with_part, no_tag, tag_within}
use Rattle.tags.proofs.Tagging.{by_part, within-part, within_end, within-bad}

-- the same part, or refusals both
pub record IsBad (p : Result TagPart Refusal) : Type 0 where
  pub why : Refusal
  pub bad : p ≡ Err why

abbrev Alike : Result TagPart Refusal → Result TagPart Refusal → Type 0
Alike (Ok (Part a)) q = q ≡ Ok (Part a)
Alike (Ok (TagEnd ending)) q = q ≡ Ok (TagEnd ending)
Alike (Err refusal) q = IsBad q

module _ (doc : List ℕ) (p q : ℕ) where
  quoted-alike : (quote : ℕ) (name : Range) (at : ℕ) → Alike (quoted_at quote doc name at p) (quoted_at quote doc name at q)
  unfolding quoted_at
  quoted-alike quote name at = pick-both Alike (ltb (scan (until (is quote)) doc at) (length doc)) refl (record { why = _; bad = refl })

  value-alike : (name : Range) (at : ℕ) → Alike (value_at doc name at p) (value_at doc name at q)
  unfolding value_at
  value-alike name at =
      pick-both Alike (stands "\"" doc at) (quoted-alike 34 name (at + 1))
      (pick-both Alike (stands "'" doc at) (quoted-alike 39 name (at + 1))
      (record { why = _; bad = refl }))

  attribute-alike : (at : ℕ) → Alike (attribute_part_at doc at p) (attribute_part_at doc at q)
  unfolding attribute_part_at
  attribute-alike at =
      let end = scan (until is_attribute_name_end) doc at in
      let equals = scan is_space doc end in
      pick-both Alike (eqb end at) (record { why = _; bad = refl })
      (pick-both Alike (stands "=" doc equals) (value-alike _ (scan is_space doc (equals + 1)))
      (record { why = _; bad = refl }))

  part-alike : (at : ℕ) → Alike (tag_part_at doc at p) (tag_part_at doc at q)
  unfolding tag_part_at
  part-alike at =
      let i = scan is_space doc at in
      pick-both Alike (leb (length doc) i) (record { why = _; bad = refl })
      (pick-both Alike (stands ">" doc i) refl
      (pick-both Alike (stands "/>" doc i) refl
      (attribute-alike i)))

module _ (doc : List ℕ) (at p q : ℕ) where
  pub any_part : {a : RawAttribute} → tag_part_at doc at p ≡ Ok (Part a) → tag_part_at doc at q ≡ Ok (Part a)
  any_part e = rw e at (part-alike doc p q at)

  pub any-end : {ending : Ending} → tag_part_at doc at p ≡ Ok (TagEnd ending) → tag_part_at doc at q ≡ Ok (TagEnd ending)
  any-end e = rw e at (part-alike doc p q at)

  pub any-bad : {refusal : Refusal} → tag_part_at doc at p ≡ Err refusal → IsBad (tag_part_at doc at q)
  any-bad e = rw e at (part-alike doc p q at)

with-alike : (doc : List ℕ) (a : RawAttribute) (s t : Tag) → s.attributes ≡ t.attributes → (with_part doc a s).attributes ≡ (with_part doc a t).attributes
unfolding with_part
with-alike doc a s t e = rw e

-- the attributes of a tag, whatever the place
pub attributes-alike : (k : ℕ) (doc : List ℕ) (p q at : ℕ) → (tag_within no_tag k doc at p).attributes ≡ (tag_within no_tag k doc at q).attributes
unfolding tag_within
attributes-alike zero doc p q at = refl
attributes-alike (suc k) doc p q at =
    by_part (tag_part_at doc at p)
    (λ a e.
    rw (within-part no_tag k doc at p e, within-part no_tag k doc at q (any_part doc at p q e)) (with-alike doc a (tag_within no_tag k doc a.next p) (tag_within no_tag k doc a.next q) (attributes-alike k doc p q a.next)))
    (λ ending e. rw (within_end no_tag k doc at p e, within_end no_tag k doc at q (any-end doc at p q e)))
    (λ refusal e. rw (within-bad no_tag k doc at p e, within-bad no_tag k doc at q (any-bad doc at p q e).bad))
