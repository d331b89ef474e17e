use Rattle.std.proofs.Common.{◌-◌, length}
use Rattle.entities.proofs.Decoding.{Decoding}
use Rattle.entities.proofs.decode_each.Given as goal

abbrev pub invariant-loop-i : goal.invariant-loop-i
invariant-loop-i l = Decoding l.raw l.from l.initial.dst l.to l.dst l.i l.o

abbrev pub decreases-loop-i : goal.decreases-loop-i
decreases-loop-i l = length l.raw - l.i
