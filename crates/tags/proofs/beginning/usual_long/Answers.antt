use Rattle.std.proofs.Common.{rules}
use Rattle.tags.proofs.Begun.{begin-long-power}
use Rattle.tags.proofs.beginning.usual_long.Goals as goal

pub stands_long-requires : goal.stands_long-requires
stands_long-requires c = search (begin-long-power, rules)
