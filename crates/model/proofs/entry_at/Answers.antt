use Rattle.model.specs.internal.Store.{entry_at}
use Rattle.model.proofs.entry_at.Goals as goal

pub returns : goal.returns
unfolding entry_at
returns c = cc
