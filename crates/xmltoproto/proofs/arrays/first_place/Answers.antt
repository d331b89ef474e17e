use Rattle.std.proofs.Common.{arith}
use Rattle.xmltoproto.proofs.Looping.{seeking-room, of-most}
use Rattle.xmltoproto.proofs.arrays.first_place.Goals as goal

pub overflow_add-k : goal.overflow_add-k
overflow_add-k g c = let h = seeking-room c.loop-i.invariant c.in-Some.ensures.steps in let m = of-most c.args.kind c.args.s.now in let f = c.all_of-i-items.ensures.few in omega arith
