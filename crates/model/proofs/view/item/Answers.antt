use Rattle.model.proofs.Showing.{item-shown, no-item-shown}
use Rattle.model.proofs.view.item.Goals as goal

pub returns-then-i-items : goal.returns-then-i-items
returns-then-i-items c = item-shown _ _ _ _ c.items.ensures.is c.if-i-items.true c.entry_by_pairs.ensures

pub returns : goal.returns
returns c = no-item-shown _ _ _ c.items.ensures.is c.if-i-items.false
