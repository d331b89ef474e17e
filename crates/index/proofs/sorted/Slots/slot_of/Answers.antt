use Rattle.std.proofs.Common.{arith, refl, ◌∙◌}
use Rattle.index.proofs.Comparing.{order-is}
use Rattle.index.proofs.Placing.{halving-less, halving-same, halving-greater}
use Rattle.index.proofs.sorted.Slots.slot_of.Goals as goal

pub loop-low-preserved-in-Less : goal.loop-low-preserved-in-Less
loop-low-preserved-in-Less c = halving-less _ _ c.requires _ c.loop-low.invariant (omega arith) (omega arith) refl c.name.ensures (c.cmp.ensures ∙ order-is _ _) c.in-Less.is

pub returns-in-Equal : goal.returns-in-Equal
returns-in-Equal c = halving-same _ _ c.requires _ c.loop-low.invariant (omega arith) (omega arith) refl c.name.ensures (c.cmp.ensures ∙ order-is _ _) c.in-Equal.is

pub loop-low-preserved : goal.loop-low-preserved
loop-low-preserved c = halving-greater _ _ c.requires _ c.loop-low.invariant (omega arith) (omega arith) refl c.name.ensures (c.cmp.ensures ∙ order-is _ _) c.in-Greater.is
