use Rattle.model.proofs.Showing.{package-shown}
use Rattle.model.proofs.view.View.package.Goals as goal

pub returns : goal.returns
returns c = package-shown _ _ _ _ c.self.view_is c.part.ensures
