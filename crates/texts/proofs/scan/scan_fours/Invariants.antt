use Rattle.std.proofs.Common.{◌≡◌, ◌-◌, length}
use Rattle.texts.specs.Scan.{scan}
use Rattle.texts.proofs.scan.scan_fours.Given as goal

abbrev pub invariant-loop-i : goal.invariant-loop-i
invariant-loop-i g l = scan g.T.ByteTest.test l.s l.i ≡ scan g.T.ByteTest.test l.s l.from

abbrev pub decreases-loop-i : goal.decreases-loop-i
decreases-loop-i g l = length l.s - l.i
