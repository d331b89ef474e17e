use Rattle.std.proofs.Common.{arith, rules}
use Rattle.printing.proofs.Writing.{counted}
use Rattle.names.proofs.camel.write_joined.Goals as goal

pub returns-then-out : goal.returns-then-out
returns-then-out g c = grind (arith, counted, c.joined_len.ensures g.J.Join.shown, rules)
