use Rattle.std.proofs.Common.{◌≡◌}
use Rattle.texts.specs.Scan.{scan, until, is}
use Rattle.swar.proofs.byte_each.Given as goal

abbrev pub invariant-loop-i : goal.invariant-loop-i
invariant-loop-i l = scan (until (is l.x)) l.s l.i ≡ scan (until (is l.x)) l.s l.at
