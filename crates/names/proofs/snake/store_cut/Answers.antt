use Rattle.std.proofs.Common.{arith, rules}
use Rattle.printing.specs.Written.{written}
use Rattle.names.specs.Conversions.{cased}
use Rattle.names.proofs.snake.store_cut.Goals as goal

pub returns : goal.returns
unfolding written cased
returns g c = grind (arith, c.loop-i.invariant.is, rules)
