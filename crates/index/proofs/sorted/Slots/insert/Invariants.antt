use Rattle.std.proofs.Common.{◌≡◌}
use Rattle.index.proofs.Inserting.{Moving}
use Rattle.index.proofs.sorted.Slots.insert.Given as goal

abbrev pub invariant-loop-j : goal.invariant-loop-j
invariant-loop-j l = Moving l.initial.self.names l.initial.self.count l.p l.self.names l.j × (l.self.count ≡ l.initial.self.count)
