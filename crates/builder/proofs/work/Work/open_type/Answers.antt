use Rattle.builder.specs.Builder.{open_type}
use Rattle.builder.proofs.Opening.{refused-by, member-dropped, member-on, type-on}
use Rattle.builder.proofs.work.Work.open_type.Goals as goal

pub returns-in_err-number : goal.returns-in_err-number
unfolding open_type
returns-in_err-number c = refused-by c.requires c.found-found.ensures c.number.ensures c.in_err-number.was c.from_residual.ensures.1 _

pub returns-then-not-in_composite : goal.returns-then-not-in_composite
returns-then-not-in_composite c = type-on c.requires c.found-found.ensures c.number.ensures c.in_ok-number.was c.in_composite.ensures c.if-not-in_composite.true c.add.ensures

pub returns-in_default : goal.returns-in_default
returns-in_default c = member-dropped c.requires c.found-found.ensures c.number.ensures c.in_ok-number.was c.in_composite.ensures c.if-not-in_composite.false c.in_default.is

pub returns : goal.returns
returns c = member-on c.requires c.found-found.ensures c.number.ensures c.in_ok-number.was c.in_composite.ensures c.if-not-in_composite.false c.in-Some.is c.add-2.ensures
