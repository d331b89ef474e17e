use Rattle.std.proofs.Common.{◌≡◌, length}
use Rattle.index.specs.internal.Index.{Naming}
use Rattle.index.proofs.filling.put_names.Given as goal

abbrev pub invariant-loop-i : goal.invariant-loop-i
invariant-loop-i l = record { naming : Naming l.v l.i l.ix; long : length l.ix ≡ length l.initial.ix }
