use Rattle.std.proofs.Common.{rules}
use Rattle.index.proofs.Adding.{ordered-start}
use Rattle.index.proofs.sorted.Slots.of.Goals as goal

pub loop-i-init : goal.loop-i-init
loop-i-init c = ordered-start _ _ c.count-i-end.ensures.few (search rules)
