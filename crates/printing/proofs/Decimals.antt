-- The two laws of decimal numbers, below 10 and from 10 on, without the bound on the recursion.
use Rattle.std.proofs.Common.{◌≡◌, refl, [], ◌∷◌, ◌++◌, ℕ, zero, suc, ◌+◌, ◌/◌, ◌%◌, ◌≤◌, ◌<◌, arith, lt-ltb, le-ltb}
use Rattle.printing.specs.Decimal.{digits, decimal}

-- more steps than n change nothing
enough : (f g n : ℕ) → n ≤ f → n ≤ g → digits f n ≡ digits g n
unfolding digits
enough zero zero n p q = refl
enough zero (suc g) n p q = rw (lt-ltb n 10 (omega arith))
enough (suc f) zero n p q = rw (lt-ltb n 10 (omega arith))
enough (suc f) (suc g) zero p q = refl
enough (suc f) (suc g) (suc n) p q = rw (enough f g (suc n / 10) (omega arith) (omega arith))

pub decimal-one : (n : ℕ) → n < 10 → decimal n ≡ (48 + n) ∷ []
unfolding decimal digits
decimal-one zero h = refl
decimal-one (suc n) h = rw (lt-ltb (suc n) 10 h)

pub decimal-more : (n : ℕ) → 10 ≤ n → decimal n ≡ decimal (n / 10) ++ ((48 + n % 10) ∷ [])
unfolding decimal digits
decimal-more zero h = absurd (omega arith)
decimal-more (suc n) h = rw (le-ltb (suc n) 10 h, enough n (suc n / 10) (suc n / 10) (omega arith) (omega arith))
