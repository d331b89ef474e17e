use Rattle.model.proofs.Showing.{encoding-shown}
use Rattle.model.proofs.view.View.encoding.Goals as goal

pub returns : goal.returns
returns c = encoding-shown _ _ _ _ c.self.view_is _ _ c.item-e.ensures c.part.ensures
