use Prim.Native.Nat.{◌+◌}
use Rattle.texts.specs.Scan.{until, is}
use Rattle.texts.proofs.Scanning.{Scanning}
use Rattle.saxlite.proofs.ends.bracket_near.Given as goal

abbrev pub invariant-loop-k : goal.invariant-loop-k
invariant-loop-k l = Scanning (until (is 62)) l.doc l.at (l.at + l.k)
