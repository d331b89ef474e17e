use native.Mathlib.Omega.{arith}
use Rattle.texts.proofs.Scanning.{bits-on}
use Rattle.texts.proofs.bits.Goals as goal

pub loop-k-preserved : goal.loop-k-preserved
loop-k-preserved g c = bits-on _ _ _ _ (omega arith) c.loop-k.invariant
