use Rattle.std.proofs.Common.{append_assoc}
use Rattle.printing.proofs.Writing.{◌▹◌}
use Rattle.xmltoproto.specs.internal.Shapes.{encoding_option}
use Rattle.xmltoproto.proofs.line.write_encoding.Goals as goal

pub returns : goal.returns
unfolding encoding_option
returns c = simp append_assoc (simp append_assoc at (c.text.ensures ▹ c.text-2.ensures ▹ c.text-3.ensures))
