use Rattle.std.proofs.Common.{ap, rules}
use Rattle.builder.specs.declared.work.Work.{Work}
use Rattle.builder.proofs.Adding.{same-trans}
use Rattle.xmlschema.proofs.Driving.{drive-broken, drive-refused, drive-on, drive-lent}
use Rattle.xmlschema.proofs.build.read_tested.Goals as goal

pub returns-in_err-told : goal.returns-in_err-told
returns-in_err-told c =
    let e = drive-broken c.loop-told.invariant.0 c.next.ensures.yields c.in_err-told.was in
    let q = drive-lent c.loop-told.invariant.1 (ap (λ (w : Work). w.limits) c.new-work.ensures.is) (ap (λ (w : Work). w.doc.now) c.new-work.ensures.is) e in
    search rules

pub loop-told-preserved : goal.loop-told-preserved
loop-told-preserved c =
    (drive-on c.loop-told.invariant.0 c.next.ensures.yields c.in_ok-told.was c.next.ensures.moves c.in-Some.is _ c.step.ensures c.in_ok-step.was, same-trans c.loop-told.invariant.1 c.step.ensures.same)

pub returns-in_err-step : goal.returns-in_err-step
returns-in_err-step c =
    let e = drive-refused c.loop-told.invariant.0 c.next.ensures.yields c.in_ok-told.was c.next.ensures.moves c.in-Some.is _ c.step.ensures c.in_err-step.was in
    let q = drive-lent c.loop-told.invariant.1 (ap (λ (w : Work). w.limits) c.new-work.ensures.is) (ap (λ (w : Work). w.doc.now) c.new-work.ensures.is) e in
    search rules
