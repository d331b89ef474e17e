use Rattle.std.proofs.Common.{arith}
use Rattle.xmltoproto.proofs.Generating.{generated-refused, generated-no-room, generated-wrote}
use Rattle.xmltoproto.proofs.generate_in.Goals as goal

pub returns-in_err-array_refusal : goal.returns-in_err-array_refusal
returns-in_err-array_refusal c = generated-refused _ _ c.in_err-array_refusal.ensures c.from_residual.ensures.1

pub returns-then-has_room : goal.returns-then-has_room
returns-then-has_room c = generated-wrote _ _ c.in_ok-array_refusal.ensures c.has_room.ensures c.if-has_room.true (omega arith) c.print_source.ensures

pub returns : goal.returns
returns c = generated-no-room _ _ c.in_ok-array_refusal.ensures c.has_room.ensures c.if-has_room.false
