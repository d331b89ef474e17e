use Rattle.charsets.proofs.Cleaning.{cleaning-on}
use Rattle.charsets.proofs.Laws.{laws}
use Rattle.charsets.proofs.clean.Goals as goal

pub loop-i-preserved : goal.loop-i-preserved
loop-i-preserved c =
    (cleaning-on c.loop-i.invariant.0 c.loop-i-test.true c.is_punctuation.ensures c.if-is_punctuation.false c.if-n-ge-LONGEST.false c.lower.ensures, search laws)
