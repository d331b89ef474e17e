use native.Mathlib.Omega.{arith}
use Rattle.saxlite.proofs.Finding.{ends-within}
use Rattle.saxlite.proofs.Silence.{passed_then, instruction-past}
use Rattle.saxlite.proofs.passing.past_instructions.Goals as goal

pub loop-i-smaller : goal.loop-i-smaller
loop-i-smaller c = omega (arith, ends-within c.instruction_end.ensures c.in-Some.is)

pub loop-i-preserved : goal.loop-i-preserved
loop-i-preserved c = (passed_then c.loop-i.invariant.0 (instruction-past (rw c.if-not-pair_stands.false at c.pair_stands.ensures) c.instruction_end.ensures c.in-Some.is), omega arith)

pub overflow_add-i-in-Some : goal.overflow_add-i-in-Some
overflow_add-i-in-Some c = omega (arith, ends-within c.instruction_end.ensures c.in-Some.is)
