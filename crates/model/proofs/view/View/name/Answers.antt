use Rattle.model.proofs.Showing.{name-shown}
use Rattle.model.proofs.view.View.name.Goals as goal

pub returns : goal.returns
returns c = name-shown _ _ _ _ c.self.view_is _ _ c.item-e.ensures c.part.ensures
