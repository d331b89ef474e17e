use Rattle.swar.proofs.Standing.{stands-not}
use Rattle.swar.proofs.stands_long.Goals as goal

pub returns : goal.returns
returns c = stands-not _ _ c.word_at.ensures _ _ _ c.if-word_at-front.false
