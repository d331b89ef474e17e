use Rattle.printing.specs.Repeated.{up_to}
use Rattle.printing.specs.Written.{Wrote}
use Rattle.names.specs.Conversions.{cased_at}
use Rattle.names.proofs.snake.store_cut.Given as goal

abbrev pub invariant-loop-i : goal.invariant-loop-i
invariant-loop-i g l = Wrote l.initial.o l.o (up_to (cased_at g.C.Case.breaks g.C.Case.shown l.name) l.i)
