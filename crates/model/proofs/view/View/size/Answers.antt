use Rattle.model.proofs.Showing.{size-given, size-absent}
use Rattle.model.proofs.view.View.size.Goals as goal

pub returns-then-e-eq1 : goal.returns-then-e-eq1
returns-then-e-eq1 c = size-given _ _ _ _ c.self.view_is _ _ c.item-e.ensures c.if-e-eq1.true

pub returns-else-e-eq1 : goal.returns-else-e-eq1
returns-else-e-eq1 c = size-absent _ _ _ _ c.self.view_is _ _ c.item-e.ensures c.if-e-eq1.false
