use native.Mathlib.Omega.{arith}
use Rattle.model.proofs.Searching.{backward-none, backward-found, backward-on}
use Rattle.model.proofs.search.last.Goals as goal

pub returns-then-passes : goal.returns-then-passes
returns-then-passes g c = backward-found c.loop-i.invariant (omega arith) c.passes.ensures c.if-passes.true

pub loop-i-preserved : goal.loop-i-preserved
loop-i-preserved g c = backward-on c.loop-i.invariant (omega arith) c.passes.ensures c.if-passes.false

pub returns : goal.returns
returns g c = backward-none c.loop-i.invariant (omega arith)
