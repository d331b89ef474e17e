use native.Mathlib.Omega.{arith}
use Rattle.names.proofs.Storing.{storing-start, storing-within, storing-on, cased-is, cased-stored}
use Rattle.names.proofs.snake.store.Goals as goal

pub loop-i-init : goal.loop-i-init
loop-i-init g c = storing-start (omega arith) (omega arith)

pub bounds-out-p : goal.bounds-out-p
bounds-out-p g c = storing-within c.loop-i.invariant (omega arith) _ c.store_break-p.ensures

pub overflow_add-p : goal.overflow_add-p
overflow_add-p g c = omega (arith, bounds-out-p g c)

pub loop-i-preserved : goal.loop-i-preserved
loop-i-preserved g c =
    storing-on c.loop-i.invariant (omega arith) _ c.store_break-p.ensures _ (cased-is _ _ _ _ c.at-breaks.ensures.0 c.at-breaks.ensures.1)

pub returns : goal.returns
returns g c = cased-stored _ _ _ c.loop-i.invariant (omega arith)
