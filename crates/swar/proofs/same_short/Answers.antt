use Rattle.swar.proofs.Alike.{differ, halves-decide}
use Rattle.swar.proofs.same_short.Goals as goal

pub returns-then-half_at : goal.returns-then-half_at
returns-then-half_at c = differ _ _ 0 4 c.half_at.ensures.is c.half_at-2.ensures.is c.if-half_at.true

pub returns : goal.returns
returns c =
    halves-decide _ _ c.if-a-lt4.false c.requires.0 c.requires.1 c.half_at.ensures c.half_at-2.ensures c.if-half_at.false c.half_at-3.ensures c.half_at-4.ensures
