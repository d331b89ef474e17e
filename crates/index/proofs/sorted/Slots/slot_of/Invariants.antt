use Prim.Native.Nat.{◌-◌}
use Rattle.index.proofs.Placing.{Halving}
use Rattle.index.proofs.sorted.Slots.slot_of.Given as goal

abbrev pub invariant-loop-low : goal.invariant-loop-low
invariant-loop-low l = Halving l.v l.self.names l.self.count l.name l.low l.high

abbrev pub decreases-loop-low : goal.decreases-loop-low
decreases-loop-low l = l.high - l.low
