-- The room that a loop without a test for room relies on.
use Rattle.std.specs.Prelude.{◌≡◌, Bool, true, List, ℕ, ◌+◌, ◌*◌, ◌≤◌, ◌<◌, length}
use Rattle.printing.specs.Printed.{last}

-- two more bytes fit at `at`, and the slice is shorter than the largest position
pub record Ample (o : List ℕ) (at : ℕ) : Type 0 where
  pub two : at + 1 < length o
  pub short : length o < last

-- `on` is set only where two bytes for each of n positions fit from `at` on in `room` bytes
pub record Roomy (on : Bool) (room at n : ℕ) : Type 0 where
  pub yes : on ≡ true → at + 2 * n ≤ room
