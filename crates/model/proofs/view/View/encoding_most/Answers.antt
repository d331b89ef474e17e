use Rattle.model.proofs.Showing.{encoding-short}
use Rattle.model.proofs.view.View.encoding_most.Goals as goal

pub returns : goal.returns
returns c = encoding-short _ _ _ _ c.self.view_is _ _ c.item.ensures
