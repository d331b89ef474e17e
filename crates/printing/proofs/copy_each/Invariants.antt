use Rattle.printing.proofs.Passing.{Copying}
use Rattle.printing.proofs.copy_each.Given as goal

abbrev pub invariant-loop-i : goal.invariant-loop-i
invariant-loop-i l = Copying l.s l.initial.out l.at l.out l.i
