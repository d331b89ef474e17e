use Rattle.std.proofs.Common.{◌≡◌, ℕ, ◌<◌, length, get_or}
use Rattle.escaping.specs.Escape.{escaped}
use Rattle.escaping.proofs.note.Given as goal

abbrev pub invariant-loop-i : goal.invariant-loop-i
invariant-loop-i l = (length l.noted ≡ 128) × ((b : ℕ) → b < l.i → get_or l.noted b 0 ≡ length (escaped b))
