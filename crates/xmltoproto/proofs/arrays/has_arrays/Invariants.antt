use Rattle.xmltoproto.proofs.Arrayless.{Lacking}
use Rattle.xmltoproto.proofs.arrays.has_arrays.Given as goal

abbrev pub invariant-loop-i : goal.invariant-loop-i
invariant-loop-i l = Lacking l.s l.i
