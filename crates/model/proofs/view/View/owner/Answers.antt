use Rattle.model.proofs.Showing.{owner-shown}
use Rattle.model.proofs.view.View.owner.Goals as goal

pub returns : goal.returns
returns c = owner-shown _ _ _ _ c.self.view_is _ _ c.item.ensures
