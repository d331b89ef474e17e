use Rattle.xmltoproto.proofs.Arrayless.{none_told}
use Rattle.xmltoproto.proofs.arrays.array_refusal.Goals as goal

pub returns : goal.returns
returns c = none_told _ c.has_arrays.ensures c.if-has_arrays.false
