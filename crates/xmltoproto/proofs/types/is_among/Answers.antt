use Rattle.std.proofs.Common.{arith}
use Rattle.texts.proofs.Among.{listed-here, listed-on, listed-nowhere}
use Rattle.xmltoproto.proofs.types.is_among.Goals as goal

pub returns-then-same_name : goal.returns-then-same_name
returns-then-same_name c = listed-here _ _ _ c.loop-text.invariant c.loop-text-test.true _ c.same_name.ensures c.if-same_name.true

pub loop-text-preserved : goal.loop-text-preserved
loop-text-preserved c = listed-on _ _ _ c.loop-text.invariant c.loop-text-test.true _ c.same_name.ensures c.if-same_name.false

pub returns : goal.returns
returns c = listed-nowhere c.args.s.now c.args.texts.now c.loop-text.text-index c.loop-text.invariant (omega arith)
