use Rattle.std.proofs.Common.{◌-◌, length}
use Rattle.charsets.specs.internal.Letters.{Passed}
use Rattle.charsets.proofs.past_eights.Given as goal

abbrev pub invariant-loop-i : goal.invariant-loop-i
invariant-loop-i l = Passed l.s l.from l.i

abbrev pub decreases-loop-i : goal.decreases-loop-i
decreases-loop-i l = length l.s - l.i
