use Rattle.std.proofs.Common.{refl}
use Rattle.index.proofs.Building.{resolve-on}
use Rattle.index.proofs.filling.order_item.Goals as goal

pub returns-then-kind-eq-FIELD : goal.returns-then-kind-eq-FIELD
returns-then-kind-eq-FIELD c = resolve-on _ _ c.kind.ensures _ c.requires.0.0 c.if-kind-eq-FIELD.true c.requires.0.1 c.second.ensures (rw c.requires.1 at c.code_of-d.ensures) refl
