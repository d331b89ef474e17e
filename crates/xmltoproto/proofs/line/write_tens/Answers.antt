-- `search` closes these goals with the set named here, but not through a `tactic` attribute.
use Rattle.xmltoproto.proofs.Digits.{digits}
use Rattle.xmltoproto.proofs.line.write_tens.Goals as goal

pub returns-then-n-lt10 : goal.returns-then-n-lt10
returns-then-n-lt10 c = search digits

pub returns-else-n-lt10 : goal.returns-else-n-lt10
returns-else-n-lt10 c = search digits
