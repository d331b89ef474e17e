use Rattle.builder.proofs.Closing.{close-right}
use Rattle.builder.proofs.work.Work.on_close.Goals as goal

pub returns-clause-is : goal.returns-clause-is
returns-clause-is c = close-right c.args.place _ c.is_open.ensures c.if-not-is_open.false c.requires.1 c.popped.ensures c.close_by.ensures.is
