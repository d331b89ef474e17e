use Rattle.model.proofs.Showing.{version-shown}
use Rattle.model.proofs.view.View.version.Goals as goal

pub returns : goal.returns
returns c = version-shown _ _ _ _ c.self.view_is
