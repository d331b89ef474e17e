use Rattle.std.proofs.Common.{◌-◌, length}
use Rattle.elements.specs.Keys.{keys_of}
use Rattle.tags.specs.internal.Known.{CodesOf, Apart}
use Rattle.tags.proofs.Tagging.{Going}
use Rattle.tags.proofs.Coding.{LookingAll}
use Rattle.tags.proofs.tag.tag_noting.Given as goal

abbrev pub invariant-loop-a : goal.invariant-loop-a
invariant-loop-a l = Going l.doc l.at l.place l.i × LookingAll l.doc l.at (keys_of l.element) l.i l.noted × CodesOf (keys_of l.element) l.codes × Apart l.codes

abbrev pub decreases-loop-a : goal.decreases-loop-a
decreases-loop-a l = length l.doc - l.i
