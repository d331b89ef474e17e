use Rattle.std.proofs.Common.{rules}
use Rattle.service.proofs.Replying.{replied-source, replied-line}
use Rattle.service.proofs.reply.Goals as goal

pub returns-in-Ok : goal.returns-in-Ok
returns-in-Ok c =
    replied-source c.args.document.now c.args.records.now c.args.text.now c.args.output.now (search rules) (search rules) (search rules) c.xml_to_proto.ensures c.in-Ok.is c.part.ensures

pub returns-in-Err : goal.returns-in-Err
returns-in-Err c =
    replied-line c.args.document.now c.args.records.now c.args.text.now c.args.output.now (search rules) (search rules) (search rules) c.xml_to_proto.ensures c.in-Err.is c.refusal_line.ensures
