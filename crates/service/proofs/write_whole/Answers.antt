use Rattle.std.proofs.Common.{rules}
use Rattle.service.proofs.Writing.{written-on}
use Rattle.service.proofs.write_whole.Goals as goal

pub loop-done-preserved-in-Ok : goal.loop-done-preserved-in-Ok
loop-done-preserved-in-Ok g c = (search rules, written-on _ _ _ _ _ _ c.loop-done.invariant.1 c.in-Ok.ensures.bytes)
