-- Printing a text into a slice at a position: vocabulary for Rules: Printing. Bytes past the end of
-- the slice are counted and not written.
use Rattle.std.specs.Prelude.{◌≡◌, List, [], ◌∷◌, ℕ, ◌+◌, ◌^◌, min, eqb, set}
use Rattle.texts.specs.Choice.{pick}

-- where positions saturate: 2 ^ 63, longer than any slice
abbrev pub last : ℕ
last = 2 ^ 63

-- the position after one more byte
abbrev pub next : ℕ → ℕ
next at = min (at + 1) last

-- the position after a text that is printed at `at`
unfoldable pub past : ℕ → List ℕ → ℕ
past at [] = at
past at (b ∷ t) = past (next at) t

-- the position n bytes after `at`
unfoldable pub skipped : ℕ → ℕ → ℕ
skipped at n = pick (eqb n 0) at (min (at + n) last)

-- `out` with a text laid over it from `at` on, as far as `out` goes
unfoldable pub laid : List ℕ → ℕ → List ℕ → List ℕ
laid out at [] = out
laid out at (b ∷ t) = laid (set out at b) (next at) t

-- `text` was printed at `at`: `out` became `out'`, and r is the next position
pub record Printed (out : List ℕ) (at : ℕ) (out' : List ℕ) (r : ℕ) (text : List ℕ) : Type 0 where
  pub is : out' ≡ laid out at text
  pub to : r ≡ past at text
