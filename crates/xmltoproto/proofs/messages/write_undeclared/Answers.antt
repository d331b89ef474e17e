use Rattle.xmltoproto.proofs.Typing.{undeclared-shape}
use Rattle.xmltoproto.proofs.messages.write_undeclared.Goals as goal

pub returns : goal.returns
returns c = rw (← undeclared-shape _, ← c.shape_of-shape.ensures) c.write_line.ensures
