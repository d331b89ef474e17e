use Rattle.std.proofs.Common.{append_assoc}
use Rattle.printing.proofs.Writing.{◌▹◌}
use Rattle.xmltoproto.specs.Types.{note_on}
use Rattle.xmltoproto.specs.Source.{note_line}
use Rattle.xmltoproto.proofs.line.write_foreign.Goals as goal

pub returns : goal.returns
unfolding note_line note_on
returns c = simp append_assoc (simp append_assoc at (c.write_indent.ensures ▹ c.text.ensures ▹ c.write_quoted.ensures ▹ c.text-2.ensures))
