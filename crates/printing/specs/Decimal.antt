-- Decimal numbers in ASCII: vocabulary for Rules: Printing and The program.
use Rattle.std.specs.Prelude.{List, [], ◌∷◌, ◌++◌, ℕ, zero, suc, ◌+◌, ◌/◌, ◌%◌, ltb}
use Rattle.texts.specs.Choice.{pick}

-- the digits of n: one if it is below 10, else those of n / 10 and then the last one. The first
-- argument bounds the recursion.
unfoldable pub digits : ℕ → ℕ → List ℕ
digits zero n = (48 + n) ∷ []
digits (suc f) n =
    let tens = digits f (n / 10) in
    pick (ltb n 10) ((48 + n) ∷ []) (tens ++ ((48 + n % 10) ∷ []))

-- n in decimal: n steps are more than enough
unfoldable pub decimal : ℕ → List ℕ
decimal n = digits n n
