use Rattle.names.proofs.Cutting.{Passing}
use Rattle.names.proofs.prefix.past_prefix.Given as goal

abbrev pub invariant-loop-i : goal.invariant-loop-i
invariant-loop-i l = Passing l.value l.enum_name l.j l.i
