use Rattle.model.specs.Schema.{last_named}
use Rattle.model.specs.Search.{ahead}
use Rattle.model.proofs.view.View.last_named.Goals as goal

pub returns : goal.returns
unfolding last_named ahead
returns c = c.last.ensures
