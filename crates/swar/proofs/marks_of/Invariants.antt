use lib.ListN.{take}
use Rattle.swar.specs.internal.Marks.{Flagged}
use Rattle.swar.proofs.marks_of.Given as goal

abbrev pub invariant-loop-k : goal.invariant-loop-k
invariant-loop-k g l = Flagged (take l.k l.text) l.s l.i l.m
