use Rattle.std.proofs.Common.{◌≡◌, length, take}
use lib.Seq.{sets}
use Rattle.texts.specs.Text.{piece}
use Rattle.swar.proofs.copy_few.Given as goal

abbrev pub invariant-loop-k : goal.invariant-loop-k
invariant-loop-k g l = (length l.few ≡ g.row.N) × (take l.k l.few ≡ piece l.s l.i l.k)

abbrev pub invariant-loop-j : goal.invariant-loop-j
invariant-loop-j g l = l.dst ≡ sets l.initial.dst l.at (take l.j l.few)
