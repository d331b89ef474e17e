use Rattle.model.proofs.Showing.{second_short}
use Rattle.model.proofs.view.View.second_most.Goals as goal

pub returns : goal.returns
returns c = second_short _ _ _ _ c.self.view_is _ _ c.item.ensures
