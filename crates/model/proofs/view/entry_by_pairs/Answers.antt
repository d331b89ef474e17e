use Rattle.model.proofs.Records.{entry-read}
use Rattle.model.proofs.view.entry_by_pairs.Goals as goal

pub returns : goal.returns
returns c =
    entry-read c.args.rec.now c.args.i c.number_at.ensures c.number_at-2.ensures c.pair-name.ensures.0 c.pair-name.ensures.1 c.pair-second.ensures.0 c.pair-second.ensures.1
    c.pair-number.ensures.0 c.pair-number.ensures.1 c.pair-encoding.ensures.0 c.pair-encoding.ensures.1
