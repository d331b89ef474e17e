use Rattle.printing.proofs.Writing.{◌▹◌}
use Rattle.xmltoproto.specs.Source.{header}
use Rattle.xmltoproto.proofs.source.write_header.Goals as goal

pub returns : goal.returns
unfolding header
returns c = rw (← c.package.ensures, ← c.id.ensures, ← c.version.ensures) (c.text.ensures ▹ c.write_package.ensures ▹ c.text-2.ensures ▹ c.decimal.ensures ▹ c.text-3.ensures ▹ c.decimal-2.ensures ▹ c.text-4.ensures)
