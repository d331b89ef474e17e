use Rattle.std.proofs.Common.{arith}
use Rattle.xmltoproto.proofs.Looping.{counting-start, counting-on, counting-end, numbering-start, numbering-room, numbering-on, numbering-end, under-most}
use Rattle.model.specs.Schema.{a_member}
use Rattle.xmltoproto.proofs.composites.write_members.Goals as goal

pub loop-i-init : goal.loop-i-init
loop-i-init c =
    let e = rw (← c.into_iter-i-iterator.ensures.into_iter_gives) at c.children-i-items.ensures.list in
    (counting-start e, numbering-start e (let m = under-most a_member c.args.c c.args.s.now in omega arith))

pub overflow_add-k : goal.overflow_add-k
overflow_add-k c = let h = numbering-room c.loop-i.invariant.1 c.in-Some.ensures.steps in let f = c.children-i-items.ensures.few in omega arith

pub loop-i-preserved : goal.loop-i-preserved
loop-i-preserved c = (counting-on c.loop-i.invariant.0 c.in-Some.ensures.steps, numbering-on c.loop-i.invariant.1 c.in-Some.ensures.steps c.write_member.ensures)

pub returns-clause-text : goal.returns-clause-text
returns-clause-text c = numbering-end c.loop-i.invariant.1 c.in-None.ensures.steps.0

pub returns-clause-count : goal.returns-clause-count
returns-clause-count c = record { are = counting-end c.loop-i.invariant.0 c.in-None.ensures.steps.0 }
