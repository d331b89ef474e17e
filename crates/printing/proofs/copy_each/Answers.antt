use native.Mathlib.Omega.{arith}
use Rattle.printing.proofs.Passing.{copying-start, copying-on}
use Rattle.printing.proofs.copy_each.Goals as goal

pub loop-i-init : goal.loop-i-init
loop-i-init c = copying-start (omega arith) (omega arith)

pub loop-i-preserved : goal.loop-i-preserved
loop-i-preserved c = copying-on c.loop-i.invariant c.loop-i-test.true
