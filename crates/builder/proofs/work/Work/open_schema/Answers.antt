use Rattle.builder.specs.Builder.{open_schema}
use Rattle.builder.proofs.Opening.{refused-by}
use Rattle.builder.proofs.Dispatching.{package-asked, version-refused, schema-on}
use Rattle.builder.proofs.work.Work.open_schema.Goals as goal

pub returns-in_err-id : goal.returns-in_err-id
unfolding open_schema
returns-in_err-id c = refused-by c.requires c.found-found.ensures c.number.ensures c.in_err-id.was c.from_residual.ensures.1 _

pub returns-in_err-version : goal.returns-in_err-version
returns-in_err-version c = version-refused c.requires c.found-found.ensures c.number.ensures c.in_ok-id.was c.number-2.ensures c.in_err-version.was c.from_residual-in_err-version.ensures.1

pub returns : goal.returns
returns c = schema-on c.requires c.found-found.ensures c.number.ensures c.in_ok-id.was c.number-2.ensures c.in_ok-version.was c.take_value-package.ensures

pub take_value-package-requires : goal.take_value-package-requires
take_value-package-requires c = package-asked c.requires c.found-found.ensures c.number.ensures c.in_ok-id.was c.number-2.ensures
