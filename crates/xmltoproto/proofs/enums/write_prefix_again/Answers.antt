use Rattle.std.proofs.Common.{arith}
use Rattle.printing.proofs.Again.{again-before, again-printed}
use Rattle.xmltoproto.proofs.Outputs.{printed-of, rewrote, passed}
use Rattle.xmltoproto.proofs.enums.write_prefix_again.Goals as goal

pub returns-then-out : goal.returns-then-out
returns-then-out c = passed (omega arith) (omega arith) c.requires.0 c.skip.ensures

pub again-requires : goal.again-requires
again-requires c = (again-before c.requires.1 c.requires.0 c.if-stood-out.true (omega arith) c.if-width-out.true (omega arith), omega arith)

pub returns-then-width-out : goal.returns-then-width-out
returns-then-width-out c = rewrote c.again.ensures (again-printed c.requires.1 c.requires.0 c.if-stood-out.true (omega arith) c.if-width-out.true (omega arith) (printed-of c.again.ensures))
