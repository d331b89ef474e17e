use Rattle.std.proofs.Common.{◌-◌, length}
use Rattle.entities.specs.internal.Copying.{PlainTo}
use Rattle.entities.proofs.copy_plain.Given as goal

abbrev pub invariant-loop-i : goal.invariant-loop-i
invariant-loop-i l = PlainTo l.raw l.initial.dst l.at l.dst l.i

abbrev pub decreases-loop-i : goal.decreases-loop-i
decreases-loop-i l = length l.raw - l.i
