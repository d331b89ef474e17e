use Rattle.xmltoproto.proofs.Converting.{convert-refused}
use Rattle.xmltoproto.proofs.xml_to_proto.Goals as goal

pub returns-in_err-m : goal.returns-in_err-m
returns-in_err-m c = convert-refused _ _ _ _ _ _ c.in_err-m.ensures c.from_residual.ensures.1
