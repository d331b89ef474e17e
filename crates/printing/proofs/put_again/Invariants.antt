use Rattle.printing.proofs.Again.{Copied}
use Rattle.printing.proofs.put_again.Given as goal

abbrev pub invariant-loop-i : goal.invariant-loop-i
invariant-loop-i l = Copied l.initial.out l.at l.from l.n l.out l.i
