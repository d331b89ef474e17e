use Rattle.std.proofs.Common.{length}
use Rattle.model.specs.Search.{ahead}
use Rattle.model.specs.Schema.{is_under}
use Rattle.xmltoproto.proofs.Looping.{Numbering}
use Rattle.model.specs.Schema.{item_at, under, a_ref}
use Rattle.xmltoproto.specs.Source.{ref_text}
use Rattle.xmltoproto.proofs.composites.write_refs.Given as goal

abbrev pub invariant-loop-i : goal.invariant-loop-i
invariant-loop-i l = Numbering (λ n i. ref_text n (item_at l.s i)) l.members (under a_ref l.c l.s) (ahead (is_under l.i-iterator.by.kind l.i-iterator.by.owner) l.i-iterator.from l.i-iterator.index.now) (length l.s.items) l.k l.initial.out l.out
