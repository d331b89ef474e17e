use Rattle.builder.specs.Builder.{open_field}
use Rattle.builder.proofs.Opening.{refused-by, field-dropped, field-message, field-misplaced, field-group}
use Rattle.builder.proofs.work.Work.open_field.Goals as goal

pub returns-in_err-id : goal.returns-in_err-id
unfolding open_field
returns-in_err-id c = refused-by c.requires c.found-found.ensures c.number.ensures c.in_err-id.was c.from_residual.ensures.1 _

pub returns-in_default : goal.returns-in_default
returns-in_default c = field-dropped c.requires c.found-found.ensures c.number.ensures c.in_ok-id.was c.in_default.is

pub returns-in_default-group : goal.returns-in_default-group
returns-in_default-group c = field-message c.requires c.found-found.ensures c.number.ensures c.in_ok-id.was c.in-Some.is c.in_default-group.is c.new-d.ensures c.add.ensures

pub returns-then-not-ours : goal.returns-then-not-ours
returns-then-not-ours c = field-misplaced c.requires c.found-found.ensures c.number.ensures c.in_ok-id.was c.in-Some.is c.in-Some-group.is c.owner_of.ensures c.if-not-ours.true

pub returns : goal.returns
returns c = field-group c.requires c.found-found.ensures c.number.ensures c.in_ok-id.was c.in-Some.is c.in-Some-group.is c.owner_of.ensures c.if-not-ours.false c.new-d-2.ensures c.add-2.ensures
