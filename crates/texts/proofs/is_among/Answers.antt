use Rattle.std.proofs.Common.{arith}
use Rattle.texts.proofs.Among.{listed-here, listed-on, listed-nowhere}
use Rattle.texts.proofs.is_among.Goals as goal

pub returns-then-equal : goal.returns-then-equal
returns-then-equal c = listed-here _ _ _ c.loop-text.invariant c.loop-text-test.true _ c.equal.ensures c.if-equal.true

pub loop-text-preserved : goal.loop-text-preserved
loop-text-preserved c = listed-on _ _ _ c.loop-text.invariant c.loop-text-test.true _ c.equal.ensures c.if-equal.false

pub returns : goal.returns
returns c = listed-nowhere c.args.s.now c.args.texts.now c.loop-text.text-index c.loop-text.invariant (omega arith)
