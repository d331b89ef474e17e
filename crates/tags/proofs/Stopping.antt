-- Laws of a raw name that is scanned once, for its end and its first colon.
use Rattle.std.proofs.Common.{◌≡◌, refl, sym, ap, subst, ◌∙◌, Bool, true, false, not, List, [], ◌∷◌, ℕ, zero, suc, ◌+◌, ◌-◌, ◌≤◌, ◌<◌, ◌^◌, zero-add, suc-add, arith, T, eqb, length, take, drop, get_or, length-take, length-drop, drop-drop, get_or-drop, Fits, w64, ne_eqb}
use borrow.Author.Tests.{not-false}
use Rattle.texts.specs.Choice.{◌or◌}
use Rattle.texts.specs.Text.{piece}
use Rattle.texts.specs.Scan.{count_while, scan, until, is}
use Rattle.texts.proofs.Choosing.{by-test}
use Rattle.texts.proofs.Scanning.{Scanning, count_yes, count_no, scan-start, scan-on, scan-stop, scan-end, byte-stop}
use Rattle.classes.specs.Class.{is_space, is_tag_name_end}
use Rattle.classes.specs.Table.{is_name_stop}
use Rattle.tags.specs.Names.{prefix_length}
use Rattle.tags.proofs.Searching.{scan-within}
use Rattle.tags.proofs.Naming.{prefix-some, prefix-none, local-within, local-fits}

-- ---- where a scan stops, one that passes more goes on

module _ (p q : ℕ → Bool) (more : (x : ℕ) → p x ≡ true → q x ≡ true) where
  count-through : (s : List ℕ) → count_while q s ≡ count_while p s + count_while q (drop (count_while p s) s)
  count-through [] = refl
  count-through (x ∷ s) =
      by-test (p x)
      (λ t. rw (count_yes q x s (more x t), count_yes p x s t, suc-add) (ap suc (count-through s)))
      (λ f. rw (count_no p x s f) (sym (zero-add _)))

  scan-through : (s : List ℕ) (at : ℕ) → scan q s (scan p s at) ≡ scan q s at
  scan-through s at =
      let c = count_while p (drop at s) in
      let d = ap (count_while q) (drop-drop c at s) in
      omega (arith, d, count-through (drop at s))

-- the byte at which it stops fails
count-stops : (p : ℕ → Bool) (s : List ℕ) → count_while p s < length s → p (get_or s (count_while p s) 0) ≡ false
count-stops p [] h = absurd (omega arith)
count-stops p (x ∷ s) h =
    by-test (p x)
    (λ t. rw (count_yes p x s t) (count-stops p s (let e = count_yes p x s t in omega arith)))
    (λ f. rw (count_no p x s f) f)

-- a part of a text goes no further than the text does, and as far as it goes itself
count-part : (p : ℕ → Bool) (n : ℕ) (s : List ℕ) → count_while p s < n → count_while p (take n s) ≡ count_while p s
count-part p zero s h = absurd (omega arith)
count-part p (suc n) [] h = refl
count-part p (suc n) (x ∷ s) h =
    by-test (p x)
    (λ t. let e = count_yes p x s t in rw (count_yes p x (take n s) t, e) (ap suc (count-part p n s (omega arith))))
    (λ f. rw (count_no p x (take n s) f, count_no p x s f))

count-whole : (p : ℕ → Bool) (n : ℕ) (s : List ℕ) → n ≤ count_while p s → count_while p (take n s) ≡ n
count-whole p zero s h = refl
count-whole p (suc n) [] h = absurd (omega arith)
count-whole p (suc n) (x ∷ s) h =
    by-test (p x)
    (λ t. let e = count_yes p x s t in rw (count_yes p x (take n s) t) (ap suc (count-whole p n s (omega arith))))
    (λ f. let e = count_no p x s f in absurd (omega arith))

-- ---- a raw name

only : (a : Bool) {b : Bool} → b ≡ false → a or b ≡ true → a ≡ true
only true f e = refl
only false f e = sym f ∙ e

neither : (a b : Bool) → not (a or b) ≡ true → (not a ≡ true) × (not b ≡ true)
neither true b e = absurd (subst T (sym e) tt)
neither false b e = (refl, e)

end-too : (x : ℕ) → until is_name_stop x ≡ true → until is_tag_name_end x ≡ true
unfolding is_name_stop
end-too x e = (neither (is_tag_name_end x) (eqb x 58) e).0

colon-too : (x : ℕ) → until is_name_stop x ≡ true → until (is 58) x ≡ true
unfolding is_name_stop
colon-too x e = (neither (is_tag_name_end x) (eqb x 58) e).1

module _ (doc : List ℕ) (at : ℕ) {stop : ℕ} (e : stop ≡ scan (until is_name_stop) doc at) where
  passed : Scanning (until is_tag_name_end) doc at stop
  passed = record { rest = rw e (scan-through (until is_name_stop) (until is_tag_name_end) end-too doc at) }

  from : at ≤ stop
  from = omega (arith, e)

  far : stop - at ≡ count_while (until is_name_stop) (drop at doc)
  far = omega (arith, e)

  -- up to there no colon stands
  before : count_while (until (is 58)) (drop at doc) ≡ stop - at + count_while (until (is 58)) (drop stop doc)
  before =
      let k : at + (stop - at) ≡ stop = omega (arith, from) in
      let d : drop (stop - at) (drop at doc) ≡ drop stop doc = drop-drop (stop - at) at doc ∙ ap (λ j. drop j doc) k in
      let c = count-through (until is_name_stop) (until (is 58)) colon-too (drop at doc) in
      rw (← far, d) at c

  -- where none stands there either, the name ends there, and has no prefix
  pub plain-prefix : {n : ℕ} → n ≡ stop - at → 0 ≡ prefix_length (piece doc at n)
  plain-prefix {n} q =
      let c : count_while (until (is 58)) (piece doc at n) ≡ n = count-whole (until (is 58)) n (drop at doc) (omega (arith, before)) in
      prefix-none (piece doc at n) (sym c ∙ sym (zero-add _)) (omega (arith, length-take n (drop at doc)))

  pub plain-past : length doc ≤ stop → stop ≡ scan (until is_tag_name_end) doc at
  plain-past h = scan-end passed h

  module _ (h : stop < length doc) where
    stopped : is_name_stop (get_or doc stop 0) ≡ true
    stopped =
        let n : count_while (until is_name_stop) (drop at doc) < length (drop at doc) = omega (arith, far, length-drop at doc) in
        let f = count-stops (until is_name_stop) (drop at doc) n in
        let g : get_or (drop at doc) (count_while (until is_name_stop) (drop at doc)) 0 ≡ get_or doc stop 0 = get_or-drop at doc _ 0 ∙ ap (λ k. get_or doc k 0) (sym e) in
        not-false _ (rw g at f)

    pub plain-ends : (get_or doc stop 0 ≡ 58 → ⊥) → stop ≡ scan (until is_tag_name_end) doc at
    unfolding is_name_stop
    plain-ends n = scan-stop passed h refl (ap not (only (is_tag_name_end (get_or doc stop 0)) (ne_eqb _ 58 n) stopped))

    module _ (c : get_or doc stop 0 ≡ 58) {end : ℕ} (f : end ≡ scan (until is_tag_name_end) doc stop) where
      pub colon-ends : end ≡ scan (until is_tag_name_end) doc at
      colon-ends = f ∙ passed.rest

      past : stop < end
      unfolding is_tag_name_end is_space
      past = omega (arith, (scan-on (scan-start {p = until is_tag_name_end} {s = doc} {at = stop}) h refl (rw c refl)).rest)

      pub colon-prefix : stop - at + 1 ≡ prefix_length (piece doc at (end - at))
      colon-prefix =
          let n = end - at in
          let z = byte-stop (scan-start {p = until (is 58)} {s = doc} {at = stop}) h c in
          let k : count_while (until (is 58)) (drop at doc) ≡ stop - at = omega (arith, before, z) in
          let l : count_while (until (is 58)) (piece doc at n) ≡ stop - at = count-part (until (is 58)) n (drop at doc) (omega (arith, past, from, k)) ∙ k in
          prefix-some (piece doc at n) (sym l ∙ sym (zero-add _))
          (omega (arith, past, from, length-take n (drop at doc), length-drop at doc, scan-within (until is_tag_name_end) doc stop (omega arith)))

-- what a raw name loses
module _ (doc : List ℕ) (at n : ℕ) {prefix : ℕ} (p : prefix ≡ prefix_length (piece doc at n)) where
  pub raw-prefix : prefix ≤ n
  raw-prefix = local-within doc at n refl p

  pub raw-fits : at ≤ length doc → length doc < 2 ^ 64 → Fits w64 (at + prefix)
  raw-fits h l = local-fits doc at n refl p h l
