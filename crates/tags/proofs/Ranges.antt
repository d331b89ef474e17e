-- Laws of ranges: a tag's attributes lie one behind the other, and their values do not overlap.
use Rattle.tags.specs.declared.part.Ending.{Ending}
use Rattle.refusals.specs.declared.Refusal.{Refusal}
use Rattle.texts.specs.declared.Range.{Range}
use Rattle.std.proofs.Common.{Result, Option, Some, None, Ok, Err, ◌≡◌, refl, sym, ◌∙◌, Bool, true, false, not, List, [], ◌∷◌, ℕ, zero, suc, ◌+◌, ◌≤◌, ◌<◌, arith, T, length}
use Rattle.texts.specs.Choice.{pick, ◌and◌}
use Rattle.texts.specs.Text.{same}
use Rattle.texts.proofs.Choosing.{by-test, pick_no, pick-by, and_left, and_right}
use Rattle.texts.proofs.Comparing.{same-equal}
use Rattle.tags.specs.Names.{is_xmlns}
use Rattle.tags.specs.declared.part.RawAttribute.{RawAttribute}
use Rattle.tags.specs.Attributes.{raw_name, tag_part_at, Attribute, Tag, with_part, no_tag, tag_within, tag_at, later, last_of, attribute_at, raw_length, raw_lengths}
use Rattle.tags.proofs.Looking.{later-absent}
use Rattle.tags.proofs.Placeless.{attributes-alike}
use Rattle.tags.proofs.Tagging.{by_part, part-inside, within-part, within_end, within-bad}

-- ---- one behind the other, from `at` to `next`

abbrev pub Laid : ℕ → ℕ → List Attribute → Type 0
Laid at next [] = at ≤ next
Laid at next (a ∷ more) = (at ≤ a.value.from) × Laid (a.value.from + a.value.len) next more

laid_from : (at next i : ℕ) (l : List Attribute) → i ≤ at → Laid at next l → Laid i next l
laid_from at next i [] h s = omega arith
laid_from at next i (a ∷ more) h s = (omega (arith, s.0), s.1)

laid-with : (doc : List ℕ) (at : ℕ) (a : RawAttribute) (to next : ℕ) (rest : Tag) → at ≤ a.value.from → a.value.from + a.value.len ≤ to → Laid to next rest.attributes → Laid at next (with_part doc a rest).attributes
unfolding with_part
laid-with doc at a to next rest h k s =
    pick-by (Laid at next) (is_xmlns (raw_name doc a))
    (λ t. laid_from to next at rest.attributes (omega arith) s)
    (λ f. (h, laid_from to next (a.value.from + a.value.len) rest.attributes k s))

-- the end of a tag is past its attributes, and they lie before it
record Ended (doc : List ℕ) (at next : ℕ) (l : List Attribute) : Type 0 where
  pub past : at < next
  pub inside : next ≤ length doc
  pub laid : Laid at next l

with-ending : (doc : List ℕ) (a : RawAttribute) (t : Tag) → (with_part doc a t).ending ≡ t.ending
unfolding with_part
with-ending doc a t = refl

ended : (k : ℕ) (doc : List ℕ) (at place : ℕ) {ending : Ending} → (tag_within no_tag k doc at place).ending ≡ Ok ending → Ended doc at ending.next (tag_within no_tag k doc at place).attributes
unfolding tag_within
ended zero doc at place h = absurd (let z : ◌≡◌ {A = ℕ} 0 1 = cc in omega arith)
ended (suc k) doc at place {ending} h =
    by_part (tag_part_at doc at place)
    (λ a e.
    let i = rw e at (part-inside doc at place) in
    let g = within-part no_tag k doc at place e in
    let r = ended k doc a.next place (sym (with-ending doc a (tag_within no_tag k doc a.next place)) ∙ (rw g at h)) in
    rw g (record { past = omega (arith, r.past); inside = r.inside; laid = laid-with doc at a a.next ending.next (tag_within no_tag k doc a.next place) (omega arith) (omega arith) r.laid }))
    (λ here e.
    let i = rw e at (part-inside doc at place) in
    let g = within_end no_tag k doc at place e in
    let f : ◌≡◌ {A = Result Ending Refusal} (Ok here) (Ok ending) = rw g at h in
    let z : here ≡ ending = cc in
    rw (g, ← z) (record { past = i.0; inside = i.1; laid = omega arith }))
    (λ refusal e.
    let f : ◌≡◌ {A = Result Ending Refusal} (Err refusal) (Ok ending) = rw (within-bad no_tag k doc at place e) at h in
    absurd (let z : ◌≡◌ {A = ℕ} 0 1 = cc in omega arith))

-- ---- what a look-up finds lies there

abbrev pub Lies : ℕ → ℕ → Option Range → Type 0
Lies at next (Some found) = (at ≤ found.from) × (found.from + found.len ≤ next)
Lies at next None = T true

lies-later : (at i next : ℕ) (f g : Option Range) → at ≤ i → Lies i next f → Lies at next g → Lies at next (later f g)
lies-later at i next (Some found) g h p q = (omega (arith, p.0), p.1)
lies-later at i next None g h p q = q

laid-to : (at next : ℕ) (l : List Attribute) → Laid at next l → at ≤ next
laid-to at next [] s = s
laid-to at next (a ∷ more) s = omega (arith, s.0, laid-to (a.value.from + a.value.len) next more s.1)

last-lies : (at next : ℕ) (l : List Attribute) (name : List ℕ) → Laid at next l → Lies at next (last_of name l)
unfolding last_of
last-lies at next [] name s = tt
last-lies at next (a ∷ more) name s =
    lies-later at (a.value.from + a.value.len) next (last_of name more) (pick (same a.name name) (Some a.value) None) (omega (arith, s.0))
    (last-lies (a.value.from + a.value.len) next more name s.1)
    (pick-by (Lies at next) (same a.name name) (λ t. (s.0, laid-to (a.value.from + a.value.len) next more s.1)) (λ f. tt))

-- ---- the raw lengths of what is found under different names

-- x is none of the names
abbrev pub none_of : List ℕ → List (List ℕ) → Bool
none_of x [] = true
none_of x (y ∷ ys) = not (same x y) and none_of x ys

abbrev pub different : List (List ℕ) → Bool
different [] = true
different (x ∷ xs) = none_of x xs and different xs

not_same : (x y : List ℕ) → T (not (same x y)) → same x y ≡ false
not_same x y t = by-test (same x y) (λ e. absurd (rw e at t)) (λ f. f)

lengths_in : List Attribute → List (List ℕ) → ℕ
lengths_in l [] = 0
lengths_in l (x ∷ xs) = raw_length (last_of x l) + lengths_in l xs

length-later : (f g : Option Range) → raw_length (later f g) ≤ raw_length f + raw_length g
length-later (Some found) g = omega arith
length-later None g = omega arith

module _ (a : Attribute) (more : List Attribute) (x : List ℕ) where
  -- an attribute of another name
  last-other : same a.name x ≡ false → last_of x (a ∷ more) ≡ last_of x more
  unfolding last_of
  last-other f = rw (pick_no {A = Option Range} (same a.name x) (Some a.value) None f) (later-absent (last_of x more))

  -- and of any
  last-any : raw_length (last_of x (a ∷ more)) ≤ raw_length (last_of x more) + a.value.len
  unfolding last_of
  last-any =
      let here : Option Range = pick (same a.name x) (Some a.value) None in
      let h : raw_length here ≤ a.value.len = pick-by (λ f. raw_length f ≤ a.value.len) (same a.name x) (λ t. omega arith) (λ f. omega arith) in
      omega (arith, length-later (last_of x more) here)

-- an attribute adds nothing under names that are not its own
lengths-other : (a : Attribute) (more : List Attribute) (x : List ℕ) (xs : List (List ℕ)) → a.name ≡ x → T (none_of x xs) → lengths_in (a ∷ more) xs ≡ lengths_in more xs
unfolding lengths_in
lengths-other a more x [] e t = refl
lengths-other a more x (y ∷ ys) e t =
    let n : T (not (same x y)) = and_left (not (same x y)) (none_of x ys) t in
    let f : same a.name y ≡ false = rw e (not_same x y n) in
    rw (last-other a more y f, lengths-other a more x ys e (and_right (not (same x y)) (none_of x ys) t))

-- and its own length at most under different names
lengths-any : (a : Attribute) (more : List Attribute) (xs : List (List ℕ)) → T (different xs) → lengths_in (a ∷ more) xs ≤ lengths_in more xs + a.value.len
unfolding lengths_in
lengths-any a more [] t = omega arith
lengths-any a more (x ∷ xs) t =
    by-test (same a.name x)
    (λ e. omega (arith, last-any a more x, lengths-other a more x xs (same-equal a.name x e) (and_left (none_of x xs) (different xs) t)))
    (λ f. rw (last-other a more x f) (omega (arith, lengths-any a more xs (and_right (none_of x xs) (different xs) t))))

lengths_none : (xs : List (List ℕ)) → lengths_in [] xs ≡ 0
unfolding lengths_in last_of
lengths_none [] = refl
lengths_none (x ∷ xs) = omega (arith, lengths_none xs)

lengths-laid : (at next : ℕ) (l : List Attribute) (xs : List (List ℕ)) → T (different xs) → Laid at next l → lengths_in l xs + at ≤ next
lengths-laid at next [] xs t s = omega (arith, lengths_none xs)
lengths-laid at next (a ∷ more) xs t s = omega (arith, s.0, lengths-any a more xs t, lengths-laid (a.value.from + a.value.len) next more xs t s.1)

-- ---- of a tag that ends

module _ (doc : List ℕ) (at place : ℕ) {ending : Ending} (e : (tag_at doc at place).ending ≡ Ok ending) where
  tag-ended : Ended doc at ending.next (tag_at doc at 0).attributes
  tag-ended = rw (← attributes-alike (length doc + 1) doc place 0 at) (ended (length doc + 1) doc at place e)

  pub ending-past : at < ending.next
  ending-past = tag-ended.past

  pub ending-inside : ending.next ≤ length doc
  ending-inside = tag-ended.inside

  pub value-lies : (name : List ℕ) → Lies at ending.next (attribute_at doc at name)
  unfolding attribute_at
  value-lies name = last-lies at ending.next (tag_at doc at 0).attributes name tag-ended.laid

  lengths-are : (xs : List (List ℕ)) → raw_lengths doc at xs ≡ lengths_in (tag_at doc at 0).attributes xs
  unfolding attribute_at lengths_in
  lengths-are [] = refl
  lengths-are (x ∷ xs) = rw (lengths-are xs)

  pub values-lie : (xs : List (List ℕ)) → T (different xs) → raw_lengths doc at xs + at ≤ ending.next
  values-lie xs t = omega (arith, lengths-are xs, lengths-laid at ending.next (tag_at doc at 0).attributes xs t tag-ended.laid)
