use Rattle.std.proofs.Common.{◌-◌, length}
use Rattle.tags.specs.internal.Dropping.{Unchanged}
use Rattle.tags.proofs.namespaces.past_row.Given as goal

abbrev pub invariant-loop-i : goal.invariant-loop-i
invariant-loop-i l = Unchanged l.doc l.at l.i

abbrev pub decreases-loop-i : goal.decreases-loop-i
decreases-loop-i l = length l.doc - l.i
