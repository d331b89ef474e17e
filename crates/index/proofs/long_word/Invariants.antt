use Rattle.std.proofs.Common.{◌-◌, length}
use Rattle.index.proofs.Hashing.{Hashing}
use Rattle.index.proofs.long_word.Given as goal

abbrev pub invariant-loop-i : goal.invariant-loop-i
invariant-loop-i l = Hashing l.name l.i l.h

abbrev pub decreases-loop-i : goal.decreases-loop-i
decreases-loop-i l = length l.name - l.i
