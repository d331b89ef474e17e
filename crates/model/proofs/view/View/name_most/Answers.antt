use Rattle.model.proofs.Showing.{name-short}
use Rattle.model.proofs.view.View.name_most.Goals as goal

pub returns : goal.returns
returns c = name-short _ _ _ _ c.self.view_is _ _ c.item.ensures
