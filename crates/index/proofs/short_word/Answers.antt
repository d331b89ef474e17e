use Rattle.index.proofs.Hashing.{short-four}
use Rattle.index.proofs.short_word.Goals as goal

pub returns-then-n-ge4 : goal.returns-then-n-ge4
returns-then-n-ge4 c = short-four _ c.if-n-ge4.true c.half_at.ensures c.half_at-then-n-ge4.ensures
