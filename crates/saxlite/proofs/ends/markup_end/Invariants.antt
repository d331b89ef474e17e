use Prim.Native.Nat.{◌-◌}
use Rattle.saxlite.proofs.Finding.{Nearing}
use Rattle.saxlite.proofs.ends.markup_end.Given as goal

abbrev pub invariant-loop-i : goal.invariant-loop-i
invariant-loop-i g l = Nearing g.E.MarkupEnd.needle l.doc l.from l.stop l.i

abbrev pub decreases-loop-i : goal.decreases-loop-i
decreases-loop-i g l = l.stop - l.i
