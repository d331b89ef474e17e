use native.Mathlib.Omega.{arith}
use Rattle.printing.proofs.Again.{copied-start, copied_on}
use Rattle.printing.proofs.put_again.Goals as goal

pub loop-i-init : goal.loop-i-init
loop-i-init c = copied-start (omega arith) (omega arith) (omega arith)

pub loop-i-preserved : goal.loop-i-preserved
loop-i-preserved c = copied_on c.loop-i.invariant c.loop-i-test.true
