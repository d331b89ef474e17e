use Rattle.printing.proofs.Writing.{◌▹◌}
use Rattle.xmltoproto.proofs.Sources.{package-none, package-some}
use Rattle.xmltoproto.proofs.source.write_package.Goals as goal

pub returns-then-name-eq0 : goal.returns-then-name-eq0
returns-then-name-eq0 c = package-none _ c.if-name-eq0.true

pub returns : goal.returns
returns c = package-some _ c.if-name-eq0.false (c.text.ensures ▹ c.text-2.ensures ▹ c.text-3.ensures)
