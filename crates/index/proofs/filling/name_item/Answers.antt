use Rattle.index.proofs.Building.{name-on, name-off}
use Rattle.index.proofs.filling.name_item.Goals as goal

pub returns-then-is_declaring : goal.returns-then-is_declaring
returns-then-is_declaring c = name-on _ _ c.kind.ensures _ c.requires.0 c.requires.1 c.is_declaring.ensures c.if-is_declaring.true c.name.ensures c.head_of-head.ensures c.put_front.ensures

pub returns-else-is_declaring : goal.returns-else-is_declaring
returns-else-is_declaring c = name-off _ _ c.kind.ensures _ c.requires.0 c.requires.1 c.is_declaring.ensures c.if-is_declaring.false
