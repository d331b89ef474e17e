use Rattle.swar.proofs.Lanes.{low-less, low-made}
use Rattle.swar.proofs.quick_marks.Goals as goal

pub overflow_sub-result : goal.overflow_sub-result
overflow_sub-result c = low-less c.word_at-w.ensures (c.from.ensures, c.ranges.x.fits) c.if-x-lt128.true c.if-w-eq0.true

pub returns-then-w-eq0 : goal.returns-then-w-eq0
returns-then-w-eq0 c = low-made _ _ c.word_at-w.ensures (c.from.ensures, c.ranges.x.fits) c.if-x-lt128.true c.if-w-eq0.true
