use native.Mathlib.Omega.{arith}
use Rattle.charsets.proofs.Cleaning.{run-on}
use Rattle.charsets.proofs.is_punctuation_eight.Goals as goal

pub loop-k-preserved : goal.loop-k-preserved
loop-k-preserved c t = run-on c.args.s.now c.args.i c.loop-k.k (omega arith) _ c.loop-k.invariant c.is_punctuation-all.ensures t
