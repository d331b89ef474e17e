use Rattle.builder.proofs.Closing.{text-on}
use Rattle.builder.proofs.work.Work.on_text.Goals as goal

pub returns-then-s-clause-is : goal.returns-then-s-clause-is
returns-then-s-clause-is c = text-on c.args.from c.args.len c.requires c.decode_room-n.ensures.0 c.decode_room-n.ensures.1 c.if-s.true
