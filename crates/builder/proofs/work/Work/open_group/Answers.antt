use Rattle.builder.specs.Builder.{open_group}
use Rattle.builder.proofs.Opening.{refused-by, group-dropped, group-on}
use Rattle.builder.proofs.work.Work.open_group.Goals as goal

pub returns-in_err-id : goal.returns-in_err-id
unfolding open_group
returns-in_err-id c = refused-by c.requires c.found-found.ensures c.number.ensures c.in_err-id.was c.from_residual.ensures.1 _

pub returns-in_default : goal.returns-in_default
returns-in_default c = group-dropped c.requires c.found-found.ensures c.number.ensures c.in_ok-id.was c.in_default.is

pub returns : goal.returns
returns c = group-on c.requires c.found-found.ensures c.number.ensures c.in_ok-id.was c.in-Some.is c.new-d.ensures c.add.ensures
