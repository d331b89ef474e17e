use Rattle.model.proofs.Showing.{number-shown}
use Rattle.model.proofs.view.View.number.Goals as goal

pub returns : goal.returns
returns c = number-shown _ _ _ _ c.self.view_is _ _ c.item.ensures
