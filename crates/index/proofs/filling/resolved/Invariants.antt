use Rattle.std.proofs.Common.{◌<◌}
use Rattle.index.proofs.Seeking.{Seeking}
use Rattle.index.proofs.filling.resolved.Given as goal

abbrev pub invariant-loop : goal.invariant-loop
invariant-loop l = record { seeking : Seeking l.name l.v l.p l.kept; small : l.p < 4294967296; low : l.kept < 1026 }
