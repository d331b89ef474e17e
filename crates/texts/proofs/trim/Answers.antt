use Rattle.texts.proofs.Trimming.{trim-is}
use Rattle.texts.proofs.trim.Goals as goal

pub returns : goal.returns
returns c =
    trim-is c.args.s.now _ _ c.part-rest.result.now c.scan_each-a.ensures c.part-rest.ensures c.kept.ensures c.part.ensures
