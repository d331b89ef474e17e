use Rattle.std.proofs.Common.{◌-◌, length}
use Rattle.escaping.proofs.Runs.{Runs}
use Rattle.escaping.proofs.store_runs.Given as goal

abbrev pub invariant-loop-i : goal.invariant-loop-i
invariant-loop-i l = Runs l.s l.initial.o l.o l.i

abbrev pub decreases-loop-i : goal.decreases-loop-i
decreases-loop-i l = length l.s - l.i
