use mathlib.Core.Path.{refl}
use Rattle.model.specs.Schema.{all_of}
use Rattle.model.specs.Search.{ahead}
use Rattle.model.proofs.view.View.all_of.Goals as goal

pub returns-clause-list : goal.returns-clause-list
unfolding ahead all_of
returns-clause-list c = refl
