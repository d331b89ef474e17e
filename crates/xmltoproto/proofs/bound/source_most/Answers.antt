-- `search` closes these goals with the set named here, but not through a `tactic` attribute.
use Rattle.std.proofs.Common.{◌<◌, ◌^◌, length, arith}
use Rattle.xmltoproto.proofs.Covering.{summing_start, bounds}
use Rattle.xmltoproto.proofs.bound.source_most.Goals as goal

pub loop-i-init : goal.loop-i-init
loop-i-init c =
    let l : length c.package.result.now < 2 ^ 63 = omega arith in
    summing_start _ c.package.ensures (rw c.id.ensures at c.has_few_digits.ensures) (rw c.version.ensures at c.has_few_digits-2.ensures) l c.count-i-end.ensures.is c.count-i-end.ensures.few

pub loop-i-preserved : goal.loop-i-preserved
loop-i-preserved c = search bounds
