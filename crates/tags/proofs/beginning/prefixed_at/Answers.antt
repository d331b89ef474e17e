-- `search` closes these goals with the rule set named here; `using(..)` with that set does not.
use Rattle.tags.proofs.Laws.{beginning}
use Rattle.tags.proofs.beginning.prefixed_at.Goals as goal

pub returns-then-starts_with : goal.returns-then-starts_with
returns-then-starts_with c = search beginning
