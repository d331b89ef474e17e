-- `search` closes these goals with the set named here, but not through a `tactic` attribute.
use Rattle.xmltoproto.proofs.Digits.{digits}
use Rattle.xmltoproto.proofs.line.write_number.Goals as goal

pub returns-then-n-lt1000 : goal.returns-then-n-lt1000
returns-then-n-lt1000 c = search digits
