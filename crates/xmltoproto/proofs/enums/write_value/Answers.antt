use Rattle.std.proofs.Common.{arith}
use Rattle.printing.proofs.Again.{standing-kept}
use Rattle.xmltoproto.proofs.Outputs.{printed-of}
use Rattle.xmltoproto.proofs.enums.write_value.Goals as goal

pub write_prefix_again-requires : goal.write_prefix_again-requires
write_prefix_again-requires c = (c.requires.0, standing-kept (omega arith) c.requires.1 (printed-of c.text.ensures))
