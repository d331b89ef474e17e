use lib.ListN.{length}
use Rattle.names.specs.Conversions.{cased_at}
use Rattle.names.proofs.Storing.{Storing}
use Rattle.names.proofs.snake.store.Given as goal

abbrev pub invariant-loop-i : goal.invariant-loop-i
invariant-loop-i g l =
    Storing (cased_at g.C.Case.breaks g.C.Case.shown l.name) (length l.name) l.initial.out l.at l.out l.p l.i
