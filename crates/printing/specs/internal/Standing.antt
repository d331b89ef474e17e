-- Where a text that was printed stands, for printing it once more.
use Rattle.std.specs.Prelude.{◌≡◌, List, ℕ, ◌+◌, ◌≤◌, ◌<◌, length}
use Rattle.texts.specs.Text.{piece}

-- if `from` lies in the slice and all printed so far fits, `text` stands at `from`, and before `at`
pub record Standing (text out : List ℕ) (from at : ℕ) : Type 0 where
  pub before : from < length out → at ≤ length out → from + length text ≤ at
  pub is : from < length out → at ≤ length out → piece out from (length text) ≡ text
