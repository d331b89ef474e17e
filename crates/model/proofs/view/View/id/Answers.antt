use Rattle.model.proofs.Showing.{id-shown}
use Rattle.model.proofs.view.View.id.Goals as goal

pub returns : goal.returns
returns c = id-shown _ _ _ _ c.self.view_is
