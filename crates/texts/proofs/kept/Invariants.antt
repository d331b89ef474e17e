use Rattle.texts.proofs.Trimming.{Shrinking}
use Rattle.texts.proofs.kept.Given as goal

abbrev pub invariant-loop-i : goal.invariant-loop-i
invariant-loop-i l = Shrinking l.s l.i
