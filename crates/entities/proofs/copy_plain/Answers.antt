use Rattle.entities.proofs.Copying.{plain-on}
use Rattle.entities.proofs.copy_plain.Goals as goal

pub loop-i-preserved : goal.loop-i-preserved
loop-i-preserved c = plain-on c.loop-i.invariant 8 c.loop-i-test.true c.lacks.ensures c.if-lacks.true c.copy_few.ensures
