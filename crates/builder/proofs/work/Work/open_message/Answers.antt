use Rattle.builder.specs.Builder.{open_message}
use Rattle.builder.proofs.Opening.{refused-by, message-on}
use Rattle.builder.proofs.work.Work.open_message.Goals as goal

pub returns-in_err-id : goal.returns-in_err-id
unfolding open_message
returns-in_err-id c = refused-by c.requires c.found-found.ensures c.number.ensures c.in_err-id.was c.from_residual.ensures.1 _

pub returns : goal.returns
returns c = message-on c.requires c.found-found.ensures c.number.ensures c.in_ok-id.was c.new-d.ensures c.add.ensures
