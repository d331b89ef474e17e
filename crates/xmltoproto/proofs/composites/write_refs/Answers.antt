use Rattle.std.proofs.Common.{arith}
use Rattle.xmltoproto.proofs.Looping.{numbering-start, numbering-room, numbering-on, numbering-end, members-most}
use Rattle.xmltoproto.proofs.composites.write_refs.Goals as goal

pub loop-i-init : goal.loop-i-init
loop-i-init c = numbering-start (rw (← c.into_iter-i-iterator.ensures.into_iter_gives) at c.children-i-items.ensures.list) (members-most c.requires)

pub overflow_add-k : goal.overflow_add-k
overflow_add-k c = let h = numbering-room c.loop-i.invariant c.in-Some.ensures.steps in let f = c.children-i-items.ensures.few in omega arith

pub loop-i-preserved : goal.loop-i-preserved
loop-i-preserved c = numbering-on c.loop-i.invariant c.in-Some.ensures.steps c.write_ref.ensures

pub returns : goal.returns
returns c = numbering-end c.loop-i.invariant c.in-None.ensures.steps.0
