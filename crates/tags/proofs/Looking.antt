-- Laws of the look-up: what the loop of `tag_noting` keeps of each name.
use Rattle.tags.specs.declared.part.Ending.{Ending}
use Rattle.texts.specs.declared.Range.{Range}
use Rattle.std.proofs.Common.{Option, Some, None, Result, Ok, Err, ◌≡◌, refl, sym, ap, ◌∙◌, Bool, true, false, List, ℕ, ◌+◌, ◌-◌, arith, add-one}
use Rattle.texts.specs.Choice.{pick}
use Rattle.texts.specs.Text.{same}
use Rattle.texts.proofs.Choosing.{by-test, pick_yes, pick_no}
use Rattle.refusals.specs.declared.Refusal.{Refusal}
use Rattle.tags.specs.declared.part.RawAttribute.{RawAttribute}
use Rattle.tags.specs.declared.part.TagPart.{TagPart}
use Rattle.tags.specs.declared.part.TagPart.TheVariants.{Attribute as Part, TagEnd}
use Rattle.elements.specs.Keys.{Keys}
use Rattle.tags.specs.declared.noting.Notes.{Notes}
use Rattle.tags.specs.declared.noting.Matches.{Matches}
use Rattle.tags.specs.Names.{local_name, is_xmlns}
use Rattle.tags.specs.Attributes.{raw_name, tag_part_at, Tag, with_part, tag_at, later, last_of, attribute_at}
use Rattle.tags.specs.internal.Noting.{found_at, matches_of, with_value, value_if_named, FoundMore, NotedMore}
use Rattle.tags.proofs.Tagging.{tag-part, tag-end, tag-bad}
use Rattle.tags.proofs.Placeless.{any_part, any-end, any-bad}

pub later-absent : (f : Option Range) → later f None ≡ f
later-absent (Some f) = refl
later-absent None = refl

later-assoc : (f g h : Option Range) → later (later f g) h ≡ later f (later g h)
later-assoc (Some f) g h = refl
later-assoc None g h = refl

-- the look-up in a tag with one more attribute at its front
last-with : (doc : List ℕ) (a : RawAttribute) (rest : Tag) (name : List ℕ) (found : Option Range) → later (last_of name (with_part doc a rest).attributes) found ≡ later (last_of name rest.attributes) (later (value_if_named (raw_name doc a) a.value name) found)
unfolding with_part last_of
last-with doc a rest name found =
    by-test (is_xmlns (raw_name doc a))
    (λ t. simp (pick_yes, t))
    (λ f. simp (pick_no, f, later-assoc))

-- ---- notes

pub found-value : (value : Range) → found_at (value.from + 1) value.len ≡ Some value
unfolding found_at
found-value value = rw add-one

module _ (at len : ℕ) where
  pub found_none : at ≡ 0 → None ≡ found_at at len
  unfolding found_at
  found_none e = rw e

  pub found_some : (at ≡ 0 → ⊥) → Some (record { from = at - 1; len = len }) ≡ found_at at len
  found_some h =
      let e : at - 1 + 1 ≡ at = omega arith in
      sym (found-value (record { from = at - 1; len = len })) ∙ ap (λ k. found_at k len) e

pub named-yes : (named : Bool) (this earlier : ℕ) → named ≡ true → this ≡ pick named this earlier
named-yes named this earlier t = rw t

pub named-no : (named : Bool) (this earlier : ℕ) → named ≡ false → earlier ≡ pick named this earlier
named-no named this earlier f = rw f

module _ (raw : List ℕ) (value : Range) (key : List ℕ) (was long : ℕ) where
  -- b is whether the raw name declares a namespace
  pub named-xmlns : {b : Bool} → b ≡ is_xmlns raw → b ≡ true → FoundMore raw value key (found_at was long) (found_at was long)
  named-xmlns x t = rw (← x, t)

-- it does not; m is whether its local name is the key
named-local : (raw : List ℕ) (value : Range) (key : List ℕ) (was long : ℕ) → is_xmlns raw ≡ false → {m : Bool} → m ≡ same (local_name raw) key → FoundMore raw value key (found_at was long) (found_at (pick m (value.from + 1) was) (pick m value.len long))
named-local raw value key was long f {m} s = rw (f, ← s) (by-test m (λ t. rw t (found-value value)) (λ t. rw t refl))

pub named-with : (raw : List ℕ) (value : Range) (k : Keys) (was : Notes) → is_xmlns raw ≡ false → {m : Matches} → m ≡ matches_of (local_name raw) k
    → {r : Notes} → r ≡ with_value m value was → NotedMore raw value k was r
named-with raw value k was f {m} e q =
    rw q
    (record {
      number = named-local raw value k.number was.number was.number_len f (ap (λ n. n.number) e);
      name = named-local raw value k.name was.name was.name_len f (ap (λ n. n.name) e);
      second = named-local raw value k.second was.second was.second_len f (ap (λ n. n.second) e);
      encoding = named-local raw value k.encoding was.encoding was.encoding_len f (ap (λ n. n.encoding) e);
    })

-- ---- a loop that looks a name up, from `at` on, is at i, with `found` so far; p is the part at i

pub record Looking (doc : List ℕ) (at : ℕ) (name : List ℕ) (i : ℕ) (found : Option Range) : Type 0 where
  pub rest : later (last_of name (tag_at doc i 0).attributes) found ≡ attribute_at doc at name

pub looking-start : {doc : List ℕ} {at : ℕ} {name : List ℕ} → Looking doc at name at None
unfolding attribute_at
looking-start {doc} {at} {name} = record { rest = later-absent (last_of name (tag_at doc at 0).attributes) }

module _ {doc : List ℕ} {at : ℕ} {name : List ℕ} {i : ℕ} {found : Option Range} (inv : Looking doc at name i found) (place : ℕ) {p : Result TagPart Refusal} (e : p ≡ tag_part_at doc i place) where
  -- g is the later of the attribute there, where it has that name, and what was found
  pub looking-on : {a : RawAttribute} → p ≡ Ok (Part a) → {g : Option Range} → FoundMore (raw_name doc a) a.value name found g → Looking doc at name a.next g
  looking-on {a} f m =
      record { rest = ap (later (last_of name (tag_at doc a.next 0).attributes)) m ∙ sym (last-with doc a (tag_at doc a.next 0) name found) ∙ (rw (tag-part doc i 0 (any_part doc i place 0 (sym e ∙ f))) at inv.rest) }

  pub looking-end : {ending : Ending} → p ≡ Ok (TagEnd ending) → found ≡ attribute_at doc at name
  unfolding last_of
  looking-end f = rw (tag-end doc i 0 (any-end doc i place 0 (sym e ∙ f))) at inv.rest

  pub looking-bad : {refusal : Refusal} → p ≡ Err refusal → found ≡ attribute_at doc at name
  unfolding last_of
  looking-bad f = rw (tag-bad doc i 0 (any-bad doc i place 0 (sym e ∙ f)).bad) at inv.rest
