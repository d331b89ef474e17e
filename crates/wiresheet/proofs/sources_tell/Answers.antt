use Rattle.wiresheet.proofs.Unique.{source-decides, sheet-decides}
use Rattle.wiresheet.proofs.sources_tell.Goals as goal

pub returns : goal.returns
returns c = record { source = source-decides; sheet = sheet-decides }
