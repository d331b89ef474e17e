use Rattle.std.proofs.Common.{arith}
use Rattle.swar.proofs.Copying.{written-more}
use Rattle.swar.proofs.copy_few.Goals as goal

pub loop-j-preserved : goal.loop-j-preserved
loop-j-preserved g c = written-more _ c.args.dst.now c.args.at c.loop-j.j (omega (arith, c.loop-k.invariant.0)) c.loop-j.invariant
