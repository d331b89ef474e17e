use Rattle.std.proofs.Common.{◌≡◌, ◌-◌, length}
use Rattle.charsets.proofs.Cleaning.{Cleaning}
use Rattle.charsets.proofs.clean.Given as goal

abbrev pub invariant-loop-i : goal.invariant-loop-i
invariant-loop-i l = Cleaning l.s l.out l.i l.n × (length l.out ≡ length l.initial.out)

abbrev pub decreases-loop-i : goal.decreases-loop-i
decreases-loop-i l = length l.s - l.i
