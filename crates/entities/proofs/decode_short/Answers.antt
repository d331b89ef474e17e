use native.Mathlib.Omega.{arith}
use Rattle.entities.proofs.Copying.{two-parts}
use Rattle.entities.proofs.decode_short.Goals as goal

pub returns-then-both_lack : goal.returns-then-both_lack
returns-then-both_lack c =
    two-parts 4 c.args.raw.now c.args.dst.now c.args.at (omega arith) c.copy_few.ensures (omega arith) c.if-both_lack.true c.both_lack.ensures.first c.both_lack.ensures.second c.copy_few-then-both_lack.ensures
