-- Laws of numbers of one, two and three digits.
use Rattle.std.proofs.Common.{[], ◌∷◌, ℕ, ◌+◌, ◌/◌, ◌%◌, ◌≤◌, ◌<◌, arith, rules}
use Rattle.printing.specs.Decimal.{decimal}
use Rattle.printing.specs.Written.{Wrote}
use Rattle.printing.specs.declared.Output.{Output}
use Rattle.printing.proofs.Decimals.{decimal-one, decimal-more}
use Rattle.printing.proofs.Writing.{◌▹◌}

module _ {o : Output} {o₁ : Output} {o₂ : Output} (n : ℕ) where
  pub two_digits : 10 ≤ n → n < 100 → Wrote o o₁ ((48 + n / 10) ∷ []) → Wrote o₁ o₂ ((48 + n % 10) ∷ []) → Wrote o o₂ (decimal n)
  two_digits h l p q = rw (decimal-more n h, decimal-one (n / 10) (omega arith)) (p ▹ q)

  pub last-digit : 100 ≤ n → Wrote o o₁ (decimal (n / 10)) → Wrote o₁ o₂ ((48 + n % 10) ∷ []) → Wrote o o₂ (decimal n)
  last-digit h p q = rw (decimal-more n (omega arith)) (p ▹ q)

pub digit-printed : {o o' : Output} (n : ℕ) → n < 10 → Wrote o o' ((48 + n) ∷ []) → Wrote o o' (decimal n)
digit-printed n h p = rw (decimal-one n h) p

pub ruleset digits = (digit-printed, two_digits, last-digit, rules)
