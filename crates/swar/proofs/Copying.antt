-- Laws of copying byte by byte: what is copied so far, and one byte more.
use Rattle.std.proofs.Common.{◌≡◌, sym, ap, ◌∙◌, List, [], ◌∷◌, ◌++◌, ℕ, suc, ◌+◌, ◌<◌, add-zero, add-one, arith, length, take, get_or, set, take-suc, length-take-le}
use lib.Seq.{sets}

pub sets-append : (d : List ℕ) (at : ℕ) (xs ys : List ℕ) → sets d at (xs ++ ys) ≡ sets (sets d at xs) (at + length xs) ys
sets-append d at [] ys = rw add-zero
sets-append d at (x ∷ xs) ys =
    let z : suc at + length xs ≡ at + suc (length xs) = omega arith in
    rw (← z) (sets-append (set d at x) (suc at) xs ys)

-- one byte more than k bytes of t is written
pub written-more : (t d : List ℕ) (at k : ℕ) → k < length t → {e : List ℕ} → e ≡ sets d at (take k t) → set e (at + k) (get_or t k 0) ≡ sets d at (take (k + 1) t)
written-more t d at k h q =
    let l : length (take k t) ≡ k = length-take-le k t (omega arith) in
    let more : take (k + 1) t ≡ take k t ++ (get_or t k 0 ∷ []) = rw add-one (take-suc t k 0 h) in
    sym (ap (sets d at) more ∙ sets-append d at (take k t) (get_or t k 0 ∷ []) ∙ rw (l, ← q))
