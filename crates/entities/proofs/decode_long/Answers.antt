use native.Mathlib.Omega.{arith}
use Rattle.entities.proofs.Copying.{plain-whole, plain-last, rest-is}
use Rattle.entities.proofs.decode_long.Goals as goal

pub returns-then-i-n : goal.returns-then-i-n
returns-then-i-n c = plain-whole c.copy_plain-i.ensures c.if-i-n.true

pub returns-then-lacks : goal.returns-then-lacks
returns-then-lacks c = plain-last c.copy_plain-i.ensures 8 c.if-n-ge8.true (omega arith) c.lacks.ensures c.if-lacks.true c.copy_few.ensures

pub returns : goal.returns
returns c = rest-is c.copy_plain-i.ensures c.decode_each.ensures
