use Rattle.std.proofs.Common.{◌≡◌, ◌-◌, ◌≤◌, length}
use Rattle.texts.specs.Scan.{scan, is_ascii}
use Rattle.texts.proofs.past_blocks.Given as goal

abbrev pub invariant-loop-i : goal.invariant-loop-i
invariant-loop-i g l = (l.i ≤ length l.s) × (scan is_ascii l.s l.i ≡ scan is_ascii l.s l.from)

abbrev pub decreases-loop-i : goal.decreases-loop-i
decreases-loop-i g l = length l.s - l.i
