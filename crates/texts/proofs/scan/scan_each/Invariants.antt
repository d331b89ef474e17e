use Rattle.std.proofs.Common.{◌≡◌}
use Rattle.texts.specs.Scan.{scan}
use Rattle.texts.proofs.scan.scan_each.Given as goal

abbrev pub invariant-loop-i : goal.invariant-loop-i
invariant-loop-i g l = scan g.T.ByteTest.test l.s l.i ≡ scan g.T.ByteTest.test l.s l.from
