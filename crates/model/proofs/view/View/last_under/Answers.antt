use Rattle.model.specs.Search.{last_under}
use Rattle.model.specs.Search.{ahead}
use Rattle.model.proofs.view.View.last_under.Goals as goal

pub returns : goal.returns
unfolding last_under ahead
returns c = c.last.ensures
