use Rattle.names.proofs.Cutting.{cut_at}
use Rattle.names.proofs.prefix.without_prefix.Goals as goal

pub returns-in-Some : goal.returns-in-Some
returns-in-Some c = cut_at _ _ c.past_prefix.ensures c.in-Some.is c.part.ensures
