use Rattle.std.proofs.Common.{refl}
use Rattle.index.proofs.Building.{resolve-on}
use Rattle.index.proofs.filling.resolve_item.Goals as goal

pub returns-in-Some : goal.returns-in-Some
returns-in-Some c = resolve-on _ _ c.kind.ensures _ c.requires.0 c.if-kind-eq-FIELD.true c.requires.1 c.second.ensures c.in-Some.ensures refl
