use Rattle.std.proofs.Common.{◌≡◌, ◌+◌, ◌<◌}
use Rattle.texts.specs.Scan.{scan, is_ascii}
use Rattle.texts.proofs.bits.Given as goal

abbrev pub invariant-loop-k : goal.invariant-loop-k
invariant-loop-k g l = l.all < 128 → scan is_ascii l.s (l.i + l.k) ≡ scan is_ascii l.s l.i
