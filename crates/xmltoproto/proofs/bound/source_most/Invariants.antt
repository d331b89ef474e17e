use Rattle.xmltoproto.proofs.Covering.{Summing}
use Rattle.xmltoproto.proofs.bound.source_most.Given as goal

abbrev pub invariant-loop-i : goal.invariant-loop-i
invariant-loop-i l = Summing l.s l.i-end l.most l.i
