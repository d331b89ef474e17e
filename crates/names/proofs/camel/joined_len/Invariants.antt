use Rattle.names.proofs.Counting.{Counts}
use Rattle.names.proofs.camel.joined_len.Given as goal

abbrev pub invariant-loop-i : goal.invariant-loop-i
invariant-loop-i l = Counts l.name l.n l.i
