use Prim.Native.Nat.{◌-◌}
use Rattle.saxlite.proofs.Finding.{Nearby}
use Rattle.saxlite.proofs.ends.bracket_from.Given as goal

abbrev pub invariant-loop-i : goal.invariant-loop-i
invariant-loop-i g l = Nearby l.doc l.at l.stop l.i

abbrev pub decreases-loop-i : goal.decreases-loop-i
decreases-loop-i g l = l.stop - l.i
