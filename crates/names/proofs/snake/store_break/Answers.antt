use Rattle.names.proofs.Storing.{break-yes, break-no}
use Rattle.names.proofs.snake.store_break.Goals as goal

pub returns-then-on : goal.returns-then-on
returns-then-on c = break-yes c.if-on.true c.requires

pub returns : goal.returns
returns c = break-no c.if-on.false
