use native.Mathlib.Omega.{arith}
use Rattle.saxlite.proofs.Finding.{first-within}
use Rattle.saxlite.proofs.passing.past_declarations.Goals as goal

pub loop-i-smaller : goal.loop-i-smaller
loop-i-smaller c = omega (arith, first-within c.bracket_from.ensures c.in-Some.is)
