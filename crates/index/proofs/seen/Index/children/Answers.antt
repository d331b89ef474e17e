use mathlib.Core.Path.{refl}
use Rattle.model.specs.Schema.{under}
use Rattle.model.specs.Search.{ahead}
use Rattle.index.proofs.seen.Index.children.Goals as goal

pub returns-clause-list : goal.returns-clause-list
unfolding ahead under
returns-clause-list c = refl
