use lib.ListN.{take}
use Rattle.printing.specs.Printed.{Printed}
use Rattle.printing.proofs.put_cut.Given as goal

abbrev pub invariant-loop-b : goal.invariant-loop-b
invariant-loop-b l = Printed l.initial.out l.at l.out l.p (take l.b-index l.s)
