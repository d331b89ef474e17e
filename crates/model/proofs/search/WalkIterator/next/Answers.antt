use Rattle.std.proofs.Common.{rules, arith, sym, ap, ◌∙◌, length}
use Rattle.model.proofs.Searching.{ahead-none, ahead-some}
use Rattle.model.proofs.search.WalkIterator.next.Goals as goal

pub returns-in_err-i-clause-steps : goal.returns-in_err-i-clause-steps
returns-in_err-i-clause-steps g c = let e = ahead-none (sym c.next.ensures.is ∙ c.in_err-i.was) in rw c.from_residual.ensures (e, e)

pub returns-clause-steps : goal.returns-clause-steps
returns-clause-steps g c = ahead-some _ _ _ _ (sym c.next.ensures.is ∙ c.in_ok-i.was)

pub returns-clause-goes : goal.returns-clause-goes
returns-clause-goes g c =
    let e = ap length (ahead-some _ _ _ _ (sym c.next.ensures.is ∙ c.in_ok-i.was)) in
    record { on = λ _. (search rules, search rules, omega (arith, e)); keeps = search rules; rests = λ _. search rules }
