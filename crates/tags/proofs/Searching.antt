-- Laws of searching: what stands at a position, what the loop of `find` keeps, where a find lies.
use Rattle.std.proofs.Common.{Some, None, ◌≡◌, refl, sym, ◌∙◌, Bool, true, false, List, [], ◌∷◌, ℕ, suc, ◌+◌, ◌≤◌, ◌<◌, ◌^◌, arith, add-one, leb, ltb, T, leb→le, lit<, length, drop, get_or, drop_of_length-le, length-drop, drop-cons, Fits, w64, eq-eqb}
use Rattle.std.proofs.lemmas.List.Sums.{prefix_len-le-length}
use Rattle.texts.specs.Text.{starts_with}
use Rattle.texts.specs.Scan.{scan, until, is}
use Rattle.texts.proofs.Choosing.{by-test}
use Rattle.texts.proofs.Comparing.{starts-length, starts-yes}
use Rattle.texts.proofs.Scanning.{Scanning, scan-start, byte-on}
use Rattle.tags.specs.Find.{find_in, find_from}

-- ---- what stands at a position lies within the document

pub stands-within : (w doc : List ℕ) (i : ℕ) → starts_with w (drop i doc) ≡ true → 0 < length w → i + length w ≤ length doc
stands-within w doc i t p = omega (arith, starts-length w (drop i doc) t, length-drop i doc)

-- a text stands at i (b): the position k bytes on is within the document, and fits
module _ {b : Bool} (w doc : List ℕ) (i k : ℕ) (e : b ≡ starts_with w (drop i doc)) (t : b ≡ true) (p : T (ltb 0 (length w))) (q : T (leb k (length w))) where
  pub stands_on : i + k ≤ length doc
  stands_on = omega (arith, stands-within w doc i (sym e ∙ t) (lit< p), leb→le k (length w) q)

  pub stands-fits : length doc < 2 ^ 64 → Fits w64 (i + k)
  stands-fits l = omega (arith, stands_on)

-- one byte that stands at a position
pub byte-stands : (b : ℕ) (doc : List ℕ) (i : ℕ) → i < length doc → get_or doc i 0 ≡ b → starts_with (b ∷ []) (drop i doc) ≡ true
unfolding starts_with
byte-stands b doc i h e = rw (drop-cons doc i 0 h) (starts-yes b (get_or doc i 0) [] (drop (suc i) doc) (eq-eqb (get_or doc i 0) b e))

-- a scan from within the document ends there; one for a byte moves if that is not at its start
pub scan-within : (p : ℕ → Bool) (doc : List ℕ) (at : ℕ) → at ≤ length doc → scan p doc at ≤ length doc
scan-within p doc at h = omega (arith, prefix_len-le-length p (drop at doc), length-drop at doc)

pub scan-moves : (b : ℕ) (doc : List ℕ) (at : ℕ) → at < length doc → starts_with (b ∷ []) (drop at doc) ≡ false → at < scan (until (is b)) doc at
scan-moves b doc at h f =
    let n : get_or doc at 0 ≡ b → ⊥ = λ e. let t = byte-stands b doc at h e in let z : ◌≡◌ {A = ℕ} 0 1 = cc in omega arith in
    let w : Scanning (until (is b)) doc at (at + 1) = byte-on scan-start h n in
    omega (arith, w.rest)

-- ---- a search

pub find-here : (n s : List ℕ) (k : ℕ) → starts_with n s ≡ true → find_in n s k ≡ Some k
unfolding find_in
find-here n [] k t = rw (t, find_in)
find-here n (x ∷ xs) k t = rw (t, find_in)

pub find-next : (n : List ℕ) (x : ℕ) (xs : List ℕ) (k : ℕ) → starts_with n (x ∷ xs) ≡ false → find_in n (x ∷ xs) k ≡ find_in n xs (k + 1)
unfolding find_in
find-next n x xs k t = rw (t, find_in)

pub find_none : (n : List ℕ) (k : ℕ) → starts_with n [] ≡ false → find_in n [] k ≡ None
unfolding find_in
find_none n k t = rw (t, find_in)

-- the loop that searches doc for n from `from` on is at i
pub record Searching (n doc : List ℕ) (from i : ℕ) : Type 0 where
  pub rest : find_from n doc i ≡ find_from n doc from

pub search-start : {n doc : List ℕ} {from : ℕ} → Searching n doc from from
search-start = record { rest = refl }

-- b: whether n stands at i
module _ {n doc : List ℕ} {from i : ℕ} {b : Bool} (inv : Searching n doc from i) (e : b ≡ starts_with n (drop i doc)) where
  pub search-found : b ≡ true → Some i ≡ find_from n doc from
  search-found t = sym (find-here n (drop i doc) i (sym e ∙ t)) ∙ inv.rest

  pub search-on : i < length doc → b ≡ false → Searching n doc from (i + 1)
  search-on h t =
      let t' = rw (drop-cons doc i 0) at (sym e ∙ t) in
      record { rest = rw (← inv.rest, drop-cons doc i 0, find-next, add-one) }

  pub search-none : length doc ≤ i → b ≡ false → None ≡ find_from n doc from
  search-none h t =
      let t' = rw (drop_of_length-le doc h) at (sym e ∙ t) in
      rw (← inv.rest, drop_of_length-le doc h, find_none)

-- ---- what was found lies from the start on, and within

found_within : (n s : List ℕ) (k i : ℕ) → find_in n s k ≡ Some i → (k ≤ i) × (i + length n ≤ k + length s)
found_within n [] k i e =
    by-test (starts_with n [])
    (λ t. let z : k ≡ i = cc (find-here n [] k t) in (omega arith, omega (arith, starts-length n [] t)))
    (λ f. absurd (let z : ◌≡◌ {A = ℕ} 0 1 = cc (find_none n k f) in omega arith))
found_within n (x ∷ xs) k i e =
    by-test (starts_with n (x ∷ xs))
    (λ t. let z : k ≡ i = cc (find-here n (x ∷ xs) k t) in (omega arith, omega (arith, starts-length n (x ∷ xs) t)))
    (λ f. let w = found_within n xs (k + 1) i (sym (find-next n x xs k f) ∙ e) in (omega arith, omega arith))

module _ (n doc : List ℕ) (k i : ℕ) (e : find_from n doc k ≡ Some i) where
  pub found_from : k ≤ i
  found_from = (found_within n (drop k doc) k i e).0

  -- where it is not empty, or the search began within
  pub found_inside : k ≤ length doc → i + length n ≤ length doc
  found_inside h = omega (arith, found_within n (drop k doc) k i e, length-drop k doc)

  pub found-past : length doc < k → i + length n ≤ k
  found-past h = omega (arith, found_within n (drop k doc) k i e, length-drop k doc)
