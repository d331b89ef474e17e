use Rattle.index.proofs.Adding.{add-aside, add-met, add-new}
use Rattle.index.proofs.sorted.Slots.add.Goals as goal

pub meet-requires : goal.meet-requires
meet-requires c = add-met _ _ c.kind.ensures _ c.requires.0 c.requires.1 c.is_declaring.ensures c.if-is_declaring.true c.name.ensures c.slot_of.ensures c.in-Ok.is

pub returns-in-Err : goal.returns-in-Err
returns-in-Err c = rw c.insert.ensures.count (add-new _ _ c.kind.ensures _ c.requires.0 c.requires.1 c.is_declaring.ensures c.if-is_declaring.true c.name.ensures c.slot_of.ensures c.in-Err.is c.insert.ensures.names)

pub returns-else-is_declaring : goal.returns-else-is_declaring
returns-else-is_declaring c = add-aside _ _ c.kind.ensures _ c.requires.0 c.requires.1 c.is_declaring.ensures c.if-is_declaring.false
