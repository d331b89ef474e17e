use Rattle.std.proofs.Common.{refl, arith}
use Rattle.xmltoproto.proofs.Refusals.{array-absent}
use Rattle.xmltoproto.proofs.Arrayless.{lacking-on, lacking-all}
use Rattle.xmltoproto.proofs.arrays.has_arrays.Goals.{then-given+else-is_array, else-given}
use Rattle.xmltoproto.proofs.arrays.has_arrays.Goals as goal

pub loop-i-preserved : goal.loop-i-preserved
loop-i-preserved c =
    elim c.if-given.branch [
      | then-given+else-is_array w ↦ lacking-on c.loop-i.invariant w.is_array.ensures w.if-is_array.false
      | else-given w ↦ lacking-on c.loop-i.invariant (array-absent _ c.given.ensures w.if-given.false) refl
    ]

pub returns : goal.returns
returns c _ = lacking-all c.loop-i.invariant c.count-i-end.ensures.is (omega arith)
