-- `search` closes these goals with the rule set named here; `using(..)` with that set does not.
use Rattle.builder.proofs.Laws.{stacking}
use Rattle.builder.proofs.work.Work.top_name.Goals as goal

pub returns : goal.returns
returns c = search stacking
