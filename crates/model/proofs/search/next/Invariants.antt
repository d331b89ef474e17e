use Rattle.model.proofs.Searching.{Forward}
use Rattle.model.proofs.search.next.Given as goal

abbrev pub invariant-loop-i : goal.invariant-loop-i
invariant-loop-i g l = Forward (g.T.Test.test l.by) l.v l.from l.i
