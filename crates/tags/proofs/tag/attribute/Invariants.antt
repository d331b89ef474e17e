use Rattle.std.proofs.Common.{◌-◌, length}
use Rattle.tags.specs.internal.Noting.{noted_number}
use Rattle.tags.proofs.Looking.{Looking}
use Rattle.tags.proofs.tag.attribute.Given as goal

abbrev pub invariant-loop-a : goal.invariant-loop-a
invariant-loop-a l = Looking l.doc l.at l.name l.i (noted_number l.noted)

abbrev pub decreases-loop-a : goal.decreases-loop-a
decreases-loop-a l = length l.doc - l.i
