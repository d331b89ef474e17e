-- `search` closes these goals with the rule set named here; `using(..)` with that set does not.
use Rattle.builder.proofs.Laws.{taking}
use Rattle.builder.proofs.take.Draft.entry.Goals as goal

pub returns : goal.returns
returns c = search taking
