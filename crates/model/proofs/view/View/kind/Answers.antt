use Rattle.model.proofs.Showing.{kind-shown}
use Rattle.model.proofs.view.View.kind.Goals as goal

pub returns : goal.returns
returns c = kind-shown _ _ _ _ c.self.view_is _ _ c.item.ensures
