use Rattle.tags.proofs.Searching.{Searching}
use Rattle.tags.proofs.scan.find.Given as goal

abbrev pub invariant-loop-i : goal.invariant-loop-i
invariant-loop-i l = Searching l.needle l.doc l.from l.i
