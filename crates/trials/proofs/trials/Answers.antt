use Rattle.trials.proofs.Proved.{proved}
use Rattle.trials.proofs.trials.Goals as goal

pub returns : goal.returns
returns c = proved
