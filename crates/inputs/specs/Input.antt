-- Rules: The program. What is read of an input. The bytes that a reader still has are `Some` where
-- its type tells them, as over memory, and `None` where nothing is known, as of the system's input.
use Rattle.std.specs.Prelude.{◌≡◌, ◌≤◌, List, ℕ, length, take, drop, Option, Some, IfSome}
use Rattle.std.specs.Io.KnownBytes.{Consumes}

-- of the bytes that a reader had, these were taken: the next `room`, or all if there were fewer
pub record Taken (had has : Option (List ℕ)) (room : ℕ) (bytes : List ℕ) : Type 0 where
  pub few : length bytes ≤ room
  pub next : IfSome had (λ xs. (bytes ≡ take room xs) × (has ≡ Some (drop room xs)))

-- a read failed: the bytes that were taken of the reader stand at the start of the buffer
abbrev pub TakenBefore : Option (List ℕ) → Option (List ℕ) → List ℕ → Type 0
TakenBefore had has buf = (n : ℕ) × (n ≤ length buf) × Consumes had has (take n buf)
