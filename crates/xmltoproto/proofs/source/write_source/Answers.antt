use Rattle.printing.proofs.Writing.{◌▹◌}
use Rattle.xmltoproto.specs.Source.{source}
use Rattle.xmltoproto.proofs.Sources.{composites-printed}
use Rattle.xmltoproto.proofs.source.write_source.Goals as goal

pub returns : goal.returns
unfolding source
returns c = c.write_header.ensures ▹ c.write_all.ensures ▹ composites-printed _ _ c.write_all-2.ensures ▹ c.write_all-3.ensures
