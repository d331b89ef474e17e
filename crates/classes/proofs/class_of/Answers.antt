use native.Mathlib.Omega.{arith}
use Rattle.classes.proofs.Ruled.{rule}
use Rattle.classes.proofs.class_of.Goals as goal

pub returns : goal.returns
returns c = rule c.args.b (omega arith)
