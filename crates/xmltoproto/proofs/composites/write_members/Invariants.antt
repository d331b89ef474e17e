use Rattle.std.proofs.Common.{length}
use Rattle.model.specs.Search.{ahead}
use Rattle.model.specs.Schema.{is_under}
use Rattle.xmltoproto.proofs.Looping.{Counting, Numbering}
use Rattle.model.specs.Schema.{item_at, under, a_member}
use Rattle.xmltoproto.specs.Source.{member_text}
use Rattle.xmltoproto.proofs.composites.write_members.Given as goal

abbrev pub invariant-loop-i : goal.invariant-loop-i
invariant-loop-i l =
    Counting (under a_member l.c l.s) (ahead (is_under l.i-iterator.by.kind l.i-iterator.by.owner) l.i-iterator.from l.i-iterator.index.now) l.k
    × Numbering (λ n i. member_text n (item_at l.s i)) 0 (under a_member l.c l.s) (ahead (is_under l.i-iterator.by.kind l.i-iterator.by.owner) l.i-iterator.from l.i-iterator.index.now) (length l.s.items) l.k l.initial.out l.out
