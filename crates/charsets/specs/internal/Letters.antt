-- How far cleaning has come.
use Rattle.std.specs.Prelude.{◌≡◌, Option, Some, None, List, ℕ, ◌≤◌, ◌<◌, length, take, drop}
use Rattle.charsets.specs.Charset.{cleaned}

-- all bytes from `from` up to r are punctuation
pub record Passed (s : List ℕ) (from r : ℕ) : Type 0 where
  pub rest : cleaned (drop r s) ≡ cleaned (drop from s)
  pub within : r ≤ length s
  pub on : from ≤ r

-- the answer n of cleaning s into `out`: the first n bytes are the cleaned s; None where that has
-- more than 13
abbrev pub Letters : List ℕ → List ℕ → Option ℕ → Type 0
Letters s out (Some n) = take n out ≡ cleaned s
Letters s out None = 13 < length (cleaned s)
