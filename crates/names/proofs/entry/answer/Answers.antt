use Rattle.names.proofs.Entering.{entry-refused, entry-finished}
use Rattle.names.proofs.entry.answer.Goals as goal

pub returns-in_err-tested : goal.returns-in_err-tested
returns-in_err-tested g c = entry-refused _ _ c.in_err-tested.was c.from_residual.ensures.1

pub returns : goal.returns
returns g c = entry-finished _ _ c.in_ok-tested.was c.finish.ensures
