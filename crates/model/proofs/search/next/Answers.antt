use native.Mathlib.Omega.{arith}
use Rattle.model.proofs.Searching.{forward-none, forward-found, forward-on}
use Rattle.model.proofs.search.next.Goals as goal

pub returns-then-passes-clause-is : goal.returns-then-passes-clause-is
returns-then-passes-clause-is g c = forward-found c.loop-i.invariant (omega arith) c.passes.ensures c.if-passes.true

pub loop-i-preserved : goal.loop-i-preserved
loop-i-preserved g c = forward-on c.loop-i.invariant (omega arith) c.passes.ensures c.if-passes.false

pub returns-clause-is : goal.returns-clause-is
returns-clause-is g c = forward-none c.loop-i.invariant (omega arith)
