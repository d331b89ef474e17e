use Rattle.names.proofs.Cutting.{past-broken}
use Rattle.names.proofs.prefix.past_position.Goals as goal

pub returns-then-breaks : goal.returns-then-breaks
returns-then-breaks c =
    past-broken _ _ _ _ c.at-breaks.ensures.1 c.at-breaks.ensures.0 c.if-breaks.true c.past_byte.ensures c.in_ok-k.was c.past_byte-then-breaks.ensures
