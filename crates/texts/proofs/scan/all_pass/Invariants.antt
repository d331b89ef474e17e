use Rattle.std.proofs.Common.{◌≡◌, ◌+◌}
use Rattle.texts.specs.Scan.{scan}
use Rattle.texts.proofs.scan.all_pass.Given as goal

abbrev pub invariant-loop-k : goal.invariant-loop-k
invariant-loop-k g l = l.failed ≡ 0 → scan g.T.ByteTest.test l.s (l.i + l.k) ≡ scan g.T.ByteTest.test l.s l.i
