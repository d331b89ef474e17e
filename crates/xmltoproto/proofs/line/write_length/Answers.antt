use Rattle.std.proofs.Common.{append_assoc}
use Rattle.printing.proofs.Writing.{◌▹◌}
use Rattle.xmltoproto.specs.internal.Shapes.{length_option}
use Rattle.xmltoproto.proofs.line.write_length.Goals as goal

pub returns : goal.returns
unfolding length_option
returns c = simp append_assoc (simp append_assoc at (c.text.ensures ▹ c.write_number.ensures ▹ c.text-2.ensures))
