use Rattle.std.proofs.Common.{rules}
use Rattle.service.proofs.Lines.{line-printed}
use Rattle.service.proofs.refusal_line.Goals as goal

pub returns : goal.returns
returns c =
    line-printed c.args.refusal _ _ _ c.number-number.ensures c.offset-offset.ensures c.place-place.ensures (search rules) (search rules) (search rules) c.args.output.now (search rules) c.finish.ensures
    _ c.unwrap_or-n.ensures c.part.ensures
