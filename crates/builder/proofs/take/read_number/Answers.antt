-- `search` closes these goals with the rule set named here; `using(..)` with that set does not.
use Rattle.builder.proofs.Laws.{taking}
use Rattle.builder.proofs.take.read_number.Goals as goal

pub returns-in-Some-digit_at : goal.returns-in-Some-digit_at
returns-in-Some-digit_at c = search taking

pub returns-in-None : goal.returns-in-None
returns-in-None c = search taking
