-- `search` closes these goals with the rule set named here; `using(..)` with that set does not.
use Rattle.builder.proofs.Laws.{taking}
use Rattle.builder.proofs.take.take_value.Goals as goal

pub returns-in-Some : goal.returns-in-Some
returns-in-Some c = search taking
