use Rattle.std.proofs.Common.{◌≡◌, ◌+◌, ◌-◌, length}
use Rattle.saxlite.specs.internal.Passing.{Passed}
use Rattle.saxlite.proofs.passing.past_comments.Given as goal

abbrev pub invariant-loop-i : goal.invariant-loop-i
invariant-loop-i l = Passed l.doc l.at l.i × (l.last + 32 ≡ length l.doc)

abbrev pub decreases-loop-i : goal.decreases-loop-i
decreases-loop-i l = length l.doc - l.i
