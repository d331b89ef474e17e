use Rattle.std.proofs.Common.{◌≡◌, ◌≤◌, length}
use Rattle.index.specs.internal.Index.{Settling}
use Rattle.index.proofs.filling.put_rest.Given as goal

abbrev pub invariant-loop-i : goal.invariant-loop-i
invariant-loop-i l = record { settling : Settling l.v l.i l.i l.ix; within : l.i ≤ length l.v.items; long : length l.ix ≡ length l.initial.ix }
