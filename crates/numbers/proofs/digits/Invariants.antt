use Rattle.numbers.proofs.Numbering.{Counting}
use Rattle.numbers.proofs.digits.Given as goal

abbrev pub invariant-loop-b : goal.invariant-loop-b
invariant-loop-b l = Counting l.s l.b-index l.n
