use Rattle.saxlite.specs.internal.Moving.{left}
use Rattle.builder.specs.internal.Layout.{Same}
use Rattle.xmlschema.specs.internal.Driving.{Driving}
use Rattle.xmlschema.proofs.build.read_tested.Given as goal

abbrev pub invariant-loop-told : goal.invariant-loop-told
invariant-loop-told l = Driving l.reader l.work l.state × Same l.initial.work l.work

abbrev pub decreases-loop-told : goal.decreases-loop-told
decreases-loop-told l = left l.reader.doc.now l.reader.cursor
