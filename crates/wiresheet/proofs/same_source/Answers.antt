use Rattle.wiresheet.proofs.Deciding.{same-printed, decided}
use Rattle.wiresheet.proofs.same_source.Goals as goal

pub returns-in-Ok-Ok-clause-is : goal.returns-in-Ok-Ok-clause-is
returns-in-Ok-Ok-clause-is c = same-printed _ _ _ _ _ _ _ _ _ _ c.xml_to_proto-first.ensures c.xml_to_proto-second.ensures c.in-Ok-Ok.is-0 c.in-Ok-Ok.is-1 c.part.ensures c.part-in-Ok-Ok.ensures c.equal-same.ensures

pub returns-in-Ok-Ok-clause-sheets : goal.returns-in-Ok-Ok-clause-sheets
returns-in-Ok-Ok-clause-sheets c = decided _ _ _ _ _ _ _ _ _ _ c.xml_to_proto-first.ensures c.xml_to_proto-second.ensures
