use Rattle.std.proofs.Common.{rules, arith, sym, ap, ◌∙◌, length}
use Rattle.index.proofs.Finding.{under-none, under-some}
use Rattle.index.proofs.Chaining.{code-none, code-some}
use Rattle.index.proofs.seen.ChildrenIterator.next.Goals as goal

pub returns-then-n-eq0-clause-steps : goal.returns-then-n-eq0-clause-steps
returns-then-n-eq0-clause-steps c = let e = under-none _ _ _ _ (code-none _ (sym c.child_number-n.ensures ∙ c.if-n-eq0.true)) in (e, e)

pub returns-clause-steps : goal.returns-clause-steps
returns-clause-steps c = under-some _ _ _ _ (code-some _ _ (omega arith) c.child_number-n.ensures)

pub returns-clause-goes : goal.returns-clause-goes
returns-clause-goes c =
    let e = ap length (under-some _ _ _ _ (code-some _ _ (omega arith) c.child_number-n.ensures)) in
    record { on = λ _. (search rules, search rules, omega (arith, e)); keeps = search rules; rests = λ _. search rules }
