use Rattle.std.proofs.Common.{◌-◌, length}
use Rattle.swar.specs.internal.Standing.{Lacks}
use Rattle.swar.proofs.text_from.Given as goal

abbrev pub invariant-loop-i : goal.invariant-loop-i
invariant-loop-i g l = Lacks l.text l.s l.at l.i

abbrev pub decreases-loop-i : goal.decreases-loop-i
decreases-loop-i g l = length l.s - l.i
