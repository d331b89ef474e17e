use Rattle.std.proofs.Common.{arith}
use Rattle.swar.proofs.Alike.{differ, alike-on}
use Rattle.swar.proofs.same_long.Goals as goal

pub returns-then-word_at : goal.returns-then-word_at
returns-then-word_at c = differ _ _ _ 8 c.word_at.ensures.is c.word_at-in-loop-k.ensures.is c.if-word_at.true

pub loop-k-preserved : goal.loop-k-preserved
loop-k-preserved c = (alike-on _ _ _ c.loop-k.invariant.0 c.word_at.ensures c.word_at-in-loop-k.ensures c.if-word_at.false, omega arith)
