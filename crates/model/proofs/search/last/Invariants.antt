use Rattle.model.proofs.Searching.{Backward}
use Rattle.model.proofs.search.last.Given as goal

abbrev pub invariant-loop-i : goal.invariant-loop-i
invariant-loop-i g l = Backward (g.T.Test.test l.by) l.v l.i
