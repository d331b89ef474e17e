use Rattle.std.proofs.Common.{◌≡◌, true, ◌+◌}
use Rattle.texts.specs.Scan.{scan, until, is}
use Rattle.swar.proofs.lacks.Given as goal

abbrev pub invariant-loop-k : goal.invariant-loop-k
invariant-loop-k g l = l.lacks ≡ true → scan (until (is l.x)) l.s (l.i + l.k) ≡ scan (until (is l.x)) l.s l.i
