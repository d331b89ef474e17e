-- Laws of fuel: whatever stands at a position leads on within the document, so it never runs out.
use Rattle.std.proofs.Common.{Result, Option, Some, None, Ok, Err, ◌≡◌, refl, sym, ap, ◌∙◌, Bool, true, false, List, ℕ, zero, suc, ◌+◌, ◌-◌, ◌≤◌, ◌<◌, arith, add-one, eqb, leb, length, le-leb, leb-false}
use Prim.Native.String.{String}
use borrow.Author.Tests.{lt-leb}
use Rattle.texts.specs.Choice.{pick}
use Rattle.texts.specs.Text.{ascii, piece}
use Rattle.texts.specs.Scan.{scan, until, is}
use Rattle.classes.specs.Class.{is_space, is_tag_name_end}
use Rattle.refusals.specs.declared.Refusal.{Refusal}
use Rattle.refusals.specs.declared.Refusal.TheVariants.{OpenComment, OpenInstruction, OpenDeclaration}
use Rattle.tags.specs.declared.part.Ending.{Ending}
use Rattle.tags.specs.Find.{stands, find_from}
use Rattle.tags.specs.Names.{local_name}
use Rattle.tags.specs.Attributes.{tag_part_at, Tag, with_part, tag_within, tag_at}
use Rattle.tags.proofs.Searching.{stands-within, scan-within, scan-moves, found_from, found_inside}
use Rattle.tags.proofs.Tagging.{part-inside, by_part, within-part, within_end, within-bad}
use Rattle.tags.proofs.Ranges.{ending-past, ending-inside}
use Rattle.entities.specs.Entities.{decoded}
use Rattle.saxlite.specs.Event.{Attributes, Events, done, text, opens, closes, next, attributes_in}
use Rattle.saxlite.specs.Events.{text_at, past, past_end, close_at, open_by, open_at, events_at, events_within, events_from}
use Rattle.saxlite.specs.Fuel.{EventsEnd, TagsEnd}

-- two choices by one test are equal where their sides are
pick-same : {X : Type 0} (b : Bool) {x y u v : X} → (b ≡ true → x ≡ u) → (b ≡ false → y ≡ v) → pick b x y ≡ pick b u v
pick-same true f g = f refl
pick-same false f g = g refl

module _ (doc : List ℕ) (at : ℕ) (h : at < length doc) {go go' : ℕ → Events} (same : (i : ℕ) → at < i → i ≤ length doc → go i ≡ go' i) where
  past-same : (n : ℕ) (o : Option ℕ) (q : Refusal) → ((i : ℕ) → o ≡ Some i → (at < i + n) × (i + n ≤ length doc)) → past go n o q ≡ past go' n o q
  unfolding past
  past-same n (Some i) q f = let k = f i refl in same (i + n) k.0 k.1
  past-same n None q f = refl

  past-end-same : (end : String) (from : ℕ) (q : Refusal) → at < from → from ≤ length doc → past_end go end doc from q ≡ past_end go' end doc from q
  unfolding past_end
  past-end-same end from q k l =
      past-same (length (ascii end)) (find_from (ascii end) doc from) q
      (λ i e. (omega (arith, found_from (ascii end) doc from i e), found_inside (ascii end) doc from i e l))

  close-same : close_at go doc at ≡ close_at go' doc at
  unfolding close_at
  close-same =
      let end = scan (until is_tag_name_end) doc (at + 2) in
      let due = scan is_space doc end in
      pick-same (stands ">" doc due)
      (λ t. ap (next at (closes (local_name (piece doc (at + 2) (end - (at + 2)))))) (same (due + 1) (omega arith) (omega (arith, stands-within (ascii ">") doc due t (omega arith)))))
      (λ f. refl)

  open-by-same : (name : List ℕ) (a : Attributes) (r : Result Ending Refusal) → ((ending : Ending) → r ≡ Ok ending → (at < ending.next) × (ending.next ≤ length doc)) → open_by go at name a r ≡ open_by go' at name a r
  unfolding open_by
  open-by-same name a (Ok ending) f =
      let k = f ending refl in
      let e = same ending.next k.0 k.1 in
      ap (next at (opens name a)) (pick-same ending.self_closed (λ t. ap (next at (closes name)) e) (λ g. e))
  open-by-same name a (Err q) f = refl

  open-same : open_at go doc at ≡ open_at go' doc at
  unfolding open_at
  open-same =
      let end = scan (until is_tag_name_end) doc (at + 1) in
      pick-same (eqb end (at + 1)) (λ t. refl)
      (λ f. open-by-same (local_name (piece doc (at + 1) (end - (at + 1)))) (attributes_in doc end) (tag_at doc end at).ending
      (λ ending e. (omega (arith, ending-past doc end at e), ending-inside doc end at e)))

  text-same : stands "<" doc at ≡ false → text_at go doc at ≡ text_at go' doc at
  unfolding text_at
  text-same f =
      let end = scan (until (is 60)) doc at in
      ap (next at (text (decoded (piece doc at (end - at))))) (same end (scan-moves 60 doc at h f) (scan-within (until (is 60)) doc at (omega arith)))

  events-same : events_at go doc at ≡ events_at go' doc at
  unfolding events_at
  events-same =
      pick-same (stands "<!--" doc at) (λ t. past-end-same "-->" (at + 4) (OpenComment at) (omega arith) (omega (arith, stands-within (ascii "<!--") doc at t (omega arith))))
      (λ f. pick-same (stands "<?" doc at) (λ t. past-end-same "?>" (at + 2) (OpenInstruction at) (omega arith) (omega (arith, stands-within (ascii "<?") doc at t (omega arith))))
      (λ g. pick-same (stands "<!" doc at) (λ t. past-end-same ">" (at + 2) (OpenDeclaration at) (omega arith) (omega (arith, stands-within (ascii "<!") doc at t (omega arith))))
      (λ k. pick-same (stands "</" doc at) (λ t. close-same)
      (λ l. pick-same (stands "<" doc at) (λ t. open-same)
      (λ m. text-same m)))))

-- ---- the fuel

module _ (doc : List ℕ) where
  within-more : (x y : Events) (j k at : ℕ) → length doc < at + j → length doc < at + k → 0 < j → 0 < k → events_within x j doc at ≡ events_within y k doc at
  unfolding events_within
  within-more x y zero k at f g h l = absurd (omega arith)
  within-more x y (suc j) zero at f g h l = absurd (omega arith)
  within-more x y (suc j) (suc k) at f g h l =
      pick-same (leb (length doc) at) (λ t. refl)
      (λ n. let m = leb-false (length doc) at n in
      events-same doc at m (λ i p q. within-more x y j k i (omega arith) (omega arith) (omega arith) (omega arith)))

  pub from_end : {at : ℕ} → length doc ≤ at → events_from doc at ≡ done
  unfolding events_within
  from_end {at} h = rw (add-one, le-leb (length doc) at h)

  -- what stands at a position, and then the events further on
  pub from-on : {at : ℕ} → at < length doc → events_from doc at ≡ events_at (events_from doc) doc at
  unfolding events_within
  from-on {at} h =
      rw (add-one, lt-leb (length doc) at h)
      (events-same doc at h (λ i p q. within-more _ _ (length doc) (length doc + 1) i (omega arith) (omega arith) (omega arith) (omega arith)))

pub events-end : EventsEnd
events-end doc spent k h = within-more doc spent _ k (length doc + 1) 0 (omega arith) (omega arith) (omega arith) (omega arith)

-- ---- the same of a tag's parts

tag-more : (x y : Tag) (j k : ℕ) (doc : List ℕ) (at place : ℕ) → length doc < at + j → length doc < at + k → 0 < j → 0 < k → tag_within x j doc at place ≡ tag_within y k doc at place
tag-more x y zero k doc at place f g h l = absurd (omega arith)
tag-more x y (suc j) zero doc at place f g h l = absurd (omega arith)
tag-more x y (suc j) (suc k) doc at place f g h l =
    by_part (tag_part_at doc at place)
    (λ a e.
    let i = rw e at (part-inside doc at place) in
    within-part x j doc at place e
    ∙ ap (with_part doc a) (tag-more x y j k doc a.next place (omega (arith, i)) (omega (arith, i)) (omega (arith, i)) (omega (arith, i)))
    ∙ sym (within-part y k doc at place e))
    (λ ending e. within_end x j doc at place e ∙ sym (within_end y k doc at place e))
    (λ refusal e. within-bad x j doc at place e ∙ sym (within-bad y k doc at place e))

pub tags-end : TagsEnd
tags-end doc at place spent k h = tag-more spent _ k (length doc + 1) doc at place (omega arith) (omega arith) (omega arith) (omega arith)
