use Rattle.std.proofs.Common.{refl}
use Rattle.index.proofs.Building.{naming-start}
use Rattle.index.proofs.filling.put_names.Goals as goal

pub loop-i-init : goal.loop-i-init
loop-i-init c = record { naming = naming-start _ _ c.requires c.count-i-end.ensures.few; long = refl }
