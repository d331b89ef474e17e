use mathlib.Core.Path.{refl}
use Rattle.model.specs.Schema.{under}
use Rattle.model.specs.Search.{ahead}
use Rattle.model.proofs.view.View.under.Goals as goal

pub returns : goal.returns
unfolding ahead under
returns c = refl
