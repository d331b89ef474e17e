use Rattle.std.proofs.Common.{append_assoc}
use Rattle.printing.proofs.Writing.{◌▹◌}
use Rattle.xmltoproto.specs.Source.{line}
use Rattle.xmltoproto.proofs.line.write_line.Goals as goal

pub returns : goal.returns
unfolding line
returns c = simp append_assoc (simp append_assoc at (c.write_note.ensures ▹ c.write_middle.ensures ▹ c.write_end.ensures))
