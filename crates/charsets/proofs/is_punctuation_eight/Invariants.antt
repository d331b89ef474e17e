use Rattle.std.proofs.Common.{◌≡◌, true, ◌+◌, drop}
use Rattle.charsets.specs.Charset.{cleaned}
use Rattle.charsets.proofs.is_punctuation_eight.Given as goal

abbrev pub invariant-loop-k : goal.invariant-loop-k
invariant-loop-k l = l.all ≡ true → cleaned (drop (l.i + l.k) l.s) ≡ cleaned (drop l.i l.s)
