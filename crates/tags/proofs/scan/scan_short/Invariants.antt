use Rattle.std.proofs.Common.{◌≡◌, ◌+◌}
use Rattle.texts.specs.Scan.{scan}
use Rattle.tags.proofs.scan.scan_short.Given as goal

abbrev pub invariant-loop-k : goal.invariant-loop-k
invariant-loop-k g l = scan g.T.ByteTest.test l.s (l.from + l.k) ≡ scan g.T.ByteTest.test l.s l.from
