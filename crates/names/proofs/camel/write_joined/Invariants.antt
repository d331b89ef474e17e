use Rattle.printing.specs.Repeated.{up_to}
use Rattle.printing.specs.Written.{Wrote}
use Rattle.names.specs.Conversions.{joined_at}
use Rattle.names.proofs.camel.write_joined.Given as goal

abbrev pub invariant-loop-i : goal.invariant-loop-i
invariant-loop-i g l = Wrote l.initial.out l.out (up_to (joined_at g.J.Join.shown l.name) l.i)
