use Rattle.index.specs.internal.Sorted.{Ordered}
use Rattle.index.proofs.sorted.Slots.of.Given as goal

abbrev pub invariant-loop-i : goal.invariant-loop-i
invariant-loop-i l = Ordered l.v l.i l.slots.names l.slots.count
