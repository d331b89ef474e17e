use Rattle.xmlschema.proofs.Reached.{values_found, accepted_reached, reached_on}
use Rattle.xmlschema.proofs.tracking.values_found.Goals as goal

pub returns : goal.returns
returns c = record { found = values_found; accepted = accepted_reached; reached = reached_on }
