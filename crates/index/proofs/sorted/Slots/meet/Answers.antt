use Rattle.std.proofs.Common.{refl}
use Rattle.index.proofs.Adding.{meet-type, meet-other}
use Rattle.index.proofs.sorted.Slots.meet.Goals as goal

pub returns-then-by_type : goal.returns-then-by_type
returns-then-by_type c = meet-type _ _ _ _ _ c.requires refl c.kind-by_type.ensures c.if-by_type.true refl

pub returns-else-by_type : goal.returns-else-by_type
returns-else-by_type c = meet-other _ _ _ _ _ c.requires refl c.kind-by_type.ensures c.if-by_type.false
