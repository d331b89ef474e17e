use Rattle.std.proofs.Common.{arith}
use Rattle.index.proofs.Hashing.{hashing-end, words-one, words-more}
use Rattle.index.proofs.long_word.Goals as goal

pub returns-then-n-eq8 : goal.returns-then-n-eq8
returns-then-n-eq8 c = words-one _ c.requires c.word_at.ensures c.mixed-h.ensures c.if-n-eq8.true

pub loop-i-init : goal.loop-i-init
loop-i-init c = words-more _ c.requires c.word_at.ensures c.mixed-h.ensures c.if-n-eq8.false

pub returns : goal.returns
returns c = hashing-end c.loop-i.invariant (omega (arith, c.loop-i-test.false)) c.word_at-2.ensures c.mixed.ensures
