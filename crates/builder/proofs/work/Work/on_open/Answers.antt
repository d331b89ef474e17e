use Rattle.std.proofs.Common.{ap}
use native.Mathlib.Omega.{arith}
use Rattle.builder.specs.declared.work.Work.{Work}
use Rattle.builder.proofs.Dispatching.{open-deep, pushed-opens}
use Rattle.builder.proofs.work.Work.on_open.Goals as goal

pub returns-then-self-s : goal.returns-then-self-s
returns-then-self-s c =
    let l = ap (λ (w : Work). w.limits.depth) c.self.view_is in
    open-deep _ _ _ (omega (arith, c.if-self-s.true))

-- `limits` was opened: what is known of its fields is known of it
pub open_by-requires : goal.open_by-requires
open_by-requires c =
    let l = ap (λ (w : Work). w.limits.depth) c.self.view_is in
    let m = c.self.invariant in
    pushed-opens c.requires.0 c.requires.1 (omega (arith, c.if-self-s.false)) (omega arith) c.push-inner.ensures.state c.push-inner.ensures.names
