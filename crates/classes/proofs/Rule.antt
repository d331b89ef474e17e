-- Laws of a table: one test, computed over the whole table, proves its rule for every entry.
use Rattle.std.proofs.Common.{◌≡◌, refl, sym, ◌∙◌, ap, Bool, true, false, List, [], ◌∷◌, ℕ, zero, suc, ◌+◌, ◌<◌, add-zero, zero-add, add-suc, suc-add, le_of_suc-le-suc, not-suc-le-zero, T, length, get_or}
use Rattle.texts.specs.Choice.{◌and◌}
use Rattle.texts.proofs.Choosing.{and_left, and_right}

-- two tests agree
abbrev pub same : Bool → Bool → Bool
same true b = b
same false true = false
same false false = true

same-eq : (a b : Bool) → T (same a b) → a ≡ b
same-eq true true t = refl
same-eq true false t = absurd t
same-eq false true t = absurd t
same-eq false false t = refl

-- f of each entry is g of its index, counted from i
abbrev pub agreeing : (f g : ℕ → Bool) → ℕ → List ℕ → Bool
agreeing f g i [] = true
agreeing f g i (x ∷ xs) = same (f x) (g i) and agreeing f g (suc i) xs

from : (f g : ℕ → Bool) (xs : List ℕ) (i : ℕ) → T (agreeing f g i xs) → (k : ℕ) → k < length xs → f (get_or xs k 0) ≡ g (i + k)
from f g [] i t k h = absurd (not-suc-le-zero h)
from f g (x ∷ xs) i t zero h = rw add-zero (same-eq (f x) (g i) (and_left (same (f x) (g i)) _ t))
from f g (x ∷ xs) i t (suc k) h =
    from f g xs (suc i) (and_right (same (f x) (g i)) _ t) k (le_of_suc-le-suc h)
    ∙ ap g (suc-add i k ∙ sym (add-suc i k))

pub agree : (f g : ℕ → Bool) (xs : List ℕ) → T (agreeing f g 0 xs) → (k : ℕ) → k < length xs → f (get_or xs k 0) ≡ g k
agree f g xs t k h = from f g xs 0 t k h ∙ ap g (zero-add k)
