use Rattle.std.proofs.Common.{arith, rules}
use Rattle.printing.specs.Written.{written}
use Rattle.escaping.proofs.Runs.{runs-last, runs-end}
use Rattle.escaping.proofs.store_runs.Goals as goal

pub returns-then-s-e : goal.returns-then-s-e
unfolding written
returns-then-s-e c =
    grind (arith, (runs-last c.loop-i.invariant c.scan_each-e.ensures c.part.ensures c.text.ensures c.if-s-e.true).is, rules)

pub returns : goal.returns
unfolding written
returns c = grind (arith, (runs-end c.loop-i.invariant c.loop-i-test.false).is, rules)
