use Rattle.model.specs.Search.{ahead}
use Rattle.xmltoproto.proofs.Looping.{Walking}
use Rattle.model.specs.Schema.{is_under}
use Rattle.model.specs.Schema.{under}
use Rattle.xmltoproto.proofs.walk.write_under.Given as goal

abbrev pub invariant-loop-i : goal.invariant-loop-i
invariant-loop-i g l = Walking (g.T.ItemText.text l.by l.s) (under l.kind l.owner l.s) (ahead (is_under l.i-iterator.by.kind l.i-iterator.by.owner) l.i-iterator.from l.i-iterator.index.now) l.initial.out l.out
