use Rattle.std.proofs.Common.{refl, arith}
use Rattle.index.proofs.Building.{settling-start}
use Rattle.index.proofs.filling.put_settled.Goals as goal

pub loop-i-init : goal.loop-i-init
loop-i-init c = let n = c.count-i.ensures.is in record { settling = settling-start _ _ c.requires n; within = omega (arith, n); long = refl }
