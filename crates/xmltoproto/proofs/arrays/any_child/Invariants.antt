use Rattle.model.specs.Search.{ahead}
use Rattle.model.specs.Schema.{is_under}
use Rattle.xmltoproto.proofs.Looping.{Asking}
use Rattle.model.specs.Schema.{under}
use Rattle.xmltoproto.proofs.arrays.any_child.Given as goal

abbrev pub invariant-loop-i : goal.invariant-loop-i
invariant-loop-i g l = Asking (g.T.ArrayTest.test l.s) (under l.kind l.owner l.s) (ahead (is_under l.i-iterator.by.kind l.i-iterator.by.owner) l.i-iterator.from l.i-iterator.index.now)
