use Rattle.entities.proofs.Decoding.{decoding-on}
use Rattle.entities.proofs.decode_each.Goals as goal

pub loop-i-preserved : goal.loop-i-preserved
loop-i-preserved c = decoding-on c.loop-i.invariant c.loop-i-test.true c.unit_at-u.ensures
