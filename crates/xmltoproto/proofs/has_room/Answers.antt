use Rattle.xmltoproto.proofs.Generating.{room_bound}
use Rattle.xmltoproto.proofs.has_room.Goals as goal

pub returns-then-source_most-room : goal.returns-then-source_most-room
returns-then-source_most-room c = room_bound _ _ c.source_most.ensures c.if-source_most-room.true
