-- Rules: Numbers. The number that an attribute's text says.
use Rattle.std.specs.Prelude.{Bool, true, List, [], ◌∷◌, ℕ, ◌+◌, ◌-◌, ◌*◌, eqb, leb, Option, None, Some}
use Rattle.texts.specs.Choice.{pick, ◌and◌}

-- `0` to `9`
unfoldable pub is_digit : ℕ → Bool
is_digit b = leb 48 b and leb b 57

-- every byte is a digit
unfoldable pub all_digits : List ℕ → Bool
all_digits [] = true
all_digits (b ∷ s) = is_digit b and all_digits s

-- the value of digits that follow others, whose value is n
unfoldable pub value_from : ℕ → List ℕ → ℕ
value_from n [] = n
value_from n (b ∷ s) = value_from (10 * n + (b - 48)) s

-- the same, or None where a byte is no digit or the value is above 4,294,967,295
unfoldable pub bounded_from : ℕ → List ℕ → Option ℕ
bounded_from n s = pick (all_digits s and leb (value_from n s) 4294967295) (Some (value_from n s)) None

-- the value of one or more digits, else None
unfoldable pub digits_of : List ℕ → Option ℕ
digits_of [] = None
digits_of (b ∷ s) = bounded_from 0 (b ∷ s)

-- the text without one `+` at its front
unfoldable pub unsigned : List ℕ → List ℕ
unsigned [] = []
unsigned (b ∷ s) = pick (eqb b 43) s (b ∷ s)

-- the scope's "number", of an attribute that may be absent: 0 where it is absent or empty; None
-- where it is no number, which is refusal 32
unfoldable pub number_of : Option (List ℕ) → Option ℕ
number_of None = Some 0
number_of (Some []) = Some 0
number_of (Some (b ∷ s)) = digits_of (unsigned (b ∷ s))
