use Rattle.builder.proofs.Closing.{value-closed}
use Rattle.builder.proofs.work.Work.close_value.Goals as goal

pub returns-clause-is : goal.returns-clause-is
returns-clause-is c = value-closed c.requires c.in-Some.is c.collected-value.ensures c.put_value.ensures
