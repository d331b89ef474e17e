use Rattle.std.proofs.Common.{◌≡◌, ◌+◌, ◌-◌, length}
use Rattle.texts.specs.Scan.{scan, until, is}
use Rattle.swar.proofs.byte_from.Given as goal

abbrev pub invariant-loop-i : goal.invariant-loop-i
invariant-loop-i l = (scan (until (is l.x)) l.s l.i ≡ scan (until (is l.x)) l.s l.at) × (l.last + 8 ≡ length l.s)

abbrev pub decreases-loop-i : goal.decreases-loop-i
decreases-loop-i l = length l.s - l.i
