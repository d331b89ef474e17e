-- What is left is no longer than the input, and each turn leaves less of it.
use Rattle.std.proofs.Common.{length, ◌≤◌}
use Rattle.test_replaying.proofs.replay_lines.Given as goal

abbrev pub invariant-loop-rest : goal.invariant-loop-rest
invariant-loop-rest g l = length l.rest ≤ 65536

abbrev pub decreases-loop-rest : goal.decreases-loop-rest
decreases-loop-rest g l = length l.rest
