use Rattle.model.proofs.Showing.{second-shown}
use Rattle.model.proofs.view.View.second.Goals as goal

pub returns : goal.returns
returns c = second-shown _ _ _ _ c.self.view_is _ _ c.item-e.ensures c.part.ensures
