use Rattle.model.proofs.Showing.{given-shown}
use Rattle.model.proofs.view.View.given.Goals as goal

pub returns : goal.returns
returns c = given-shown _ _ _ _ c.self.view_is _ _ c.item.ensures
