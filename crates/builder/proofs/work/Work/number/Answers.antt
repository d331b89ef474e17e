use Rattle.builder.specs.internal.Taking.{CanRead}
use Rattle.builder.proofs.Adding.{number-some, number-none}
use Rattle.builder.proofs.work.Work.number.Goals as goal

pub returns-in-Some : goal.returns-in-Some
unfolding CanRead
returns-in-Some c = number-some c.requires.0 c.requires.1 c.read_number.ensures c.in-Some.is

pub returns-in-None : goal.returns-in-None
unfolding CanRead
returns-in-None c = number-none c.requires.0 c.requires.1 c.read_number.ensures c.in-None.is
