-- Laws of trimming: the loop over the back, and how front and back make the whole.
use Rattle.std.proofs.Common.{◌≡◌, refl, sym, ap, ◌∙◌, Bool, true, false, List, [], ◌∷◌, ◌++◌, ℕ, suc, ◌+◌, ◌-◌, ◌≤◌, ◌<◌, zero-add, arith, length, take, drop, get_or, length-take, length-drop, take-suc, take_all, take-take, drop-drop}
use lib.Seq.{take-length}
use Rattle.std.proofs.lemmas.Bool.{and_right}
use Rattle.std.proofs.lemmas.List.Sums.{prefix_len-le-length}
use Rattle.texts.specs.Choice.{pick, ◌and◌}
use Rattle.texts.specs.Text.{piece, same}
use Rattle.std.specs.List.{prefix_len}
use Rattle.texts.specs.Scan.{scan}
use Rattle.texts.specs.Trim.{is_blank, trimmed_front, trimmed_back, trimmed, TrimmedTo, KeptTo}
use Rattle.texts.proofs.Stores.{piece-below}

-- ---- the back

not-empty : (s : List ℕ) (b : ℕ) → same (s ++ (b ∷ [])) [] ≡ false
unfolding same
not-empty [] b = refl
not-empty (x ∷ s) b = refl

back-blank : (s : List ℕ) (b : ℕ) → is_blank b ≡ true → trimmed_back (s ++ (b ∷ [])) ≡ trimmed_back s
unfolding trimmed_back same
back-blank [] b t = rw t
back-blank (x ∷ s) b t = ap (λ rest. pick (is_blank x and same rest []) [] (x ∷ rest)) (back-blank s b t)

back-kept : (s : List ℕ) (b : ℕ) → is_blank b ≡ false → trimmed_back (s ++ (b ∷ [])) ≡ s ++ (b ∷ [])
unfolding trimmed_back
back-kept [] b t = rw t
back-kept (x ∷ s) b t = ap (λ rest. pick (is_blank x and same rest []) [] (x ∷ rest)) (back-kept s b t) ∙ rw (and_right (is_blank x) _ (not-empty s b))

-- a loop that shortens s from its back has n bytes left
pub record Shrinking (s : List ℕ) (n : ℕ) : Type 0 where
  pub rest : trimmed_back (take n s) ≡ trimmed_back s
  pub within : n ≤ length s

pub shrink-start : {s : List ℕ} → Shrinking s (length s)
shrink-start {s} = record { rest = ap trimmed_back (take-length s); within = omega arith }

module _ {s : List ℕ} {n : ℕ} (inv : Shrinking s n) where
  pub shrink-end : n ≤ 0 → KeptTo s n
  unfolding trimmed_back
  shrink-end h =
      let z : n ≡ 0 = omega arith in
      let e : take n s ≡ [] = rw z in
      record { is = e ∙ sym (ap trimmed_back e) ∙ inv.rest; within = inv.within }

  module _ (h : 0 < n) {b : Bool} (eb : b ≡ is_blank (get_or s (n - 1) 0)) where
    split : take n s ≡ take (n - 1) s ++ (get_or s (n - 1) 0 ∷ [])
    split =
        let up : n ≡ suc (n - 1) = omega arith in
        let k : n - 1 < length s = omega (arith, inv.within) in
        ap (λ j. take j s) up ∙ take-suc s (n - 1) 0 k

    pub shrink-on : b ≡ true → Shrinking s (n - 1)
    shrink-on t =
        record {
          rest = sym (back-blank (take (n - 1) s) (get_or s (n - 1) 0) (sym eb ∙ t)) ∙ sym (ap trimmed_back split) ∙ inv.rest;
          within = omega (arith, inv.within);
        }

    pub shrink-stop : b ≡ false → KeptTo s n
    shrink-stop t =
        record {
          is = split ∙ sym (back-kept (take (n - 1) s) (get_or s (n - 1) 0) (sym eb ∙ t)) ∙ sym (ap trimmed_back split) ∙ inv.rest;
          within = inv.within;
        }

-- ---- the whole

module _ (s : List ℕ) (a n : ℕ) (rest : List ℕ) (ea : a ≡ scan is_blank s 0) (er : rest ≡ piece s a (length s)) (k : KeptTo rest n) where
  front : rest ≡ drop a s
  front = er ∙ take_all (length s) (drop a s) (simp length-drop (omega arith))

  pub trim-is : {r : List ℕ} → r ≡ piece rest 0 n → r ≡ trimmed s
  unfolding trimmed trimmed_front
  trim-is e = e ∙ k.is ∙ ap trimmed_back (front ∙ ap (λ j. drop j s) (ea ∙ zero-add (prefix_len is_blank s)))

module _ (s : List ℕ) (from len a : ℕ) (whole : List ℕ) (ew : whole ≡ piece s from len) (ea : a ≡ scan is_blank whole 0) where
  within : a ≤ length whole
  within = omega (arith, prefix_len-le-length is_blank whole, ea)

  -- `from + a` is no more than `from` or the text's length, and so does not overflow
  pub trim-fits : (m : ℕ) → from ≤ m → length s ≤ m → from + a ≤ m
  trim-fits m h k =
      let l : length whole ≤ length s - from = rw (ew, length-take, length-drop) (omega arith) in
      omega (arith, within)

  pub range-is : {rest : List ℕ} {n : ℕ} → rest ≡ piece whole a (length whole) → KeptTo rest n → TrimmedTo s from len (record { from = from + a; len = n })
  range-is {rest} {n} er k =
      let l : length whole ≤ len = rw (ew, length-take) (omega arith) in
      let m : length rest ≤ length whole - a = rw (front whole a n rest ea er k, length-drop) (omega arith) in
      let h : a + n ≤ len = omega (arith, within, k.within) in
      record {
        is = ap (take n) (sym (drop-drop a from s))
            ∙ sym (piece-below (drop from s) (take len (drop from s)) len a n h (take-take len len (drop from s) (omega arith)))
            ∙ ap (λ t. piece t a n) (sym ew)
            ∙ ap (take n) (sym (front whole a n rest ea er k))
            ∙ trim-is whole a n rest ea er k refl
            ∙ ap trimmed ew;
        low = omega arith;
        high = omega arith;
      }
