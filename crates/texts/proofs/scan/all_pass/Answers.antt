use native.Mathlib.Omega.{arith}
use Rattle.texts.proofs.Scanning.{passes-on}
use Rattle.texts.proofs.scan.all_pass.Goals as goal

pub loop-k-preserved : goal.loop-k-preserved
loop-k-preserved g c = passes-on _ _ _ _ c.loop-k.failed (omega arith) c.loop-k.invariant c.passes.ensures c.from-failed.ensures
