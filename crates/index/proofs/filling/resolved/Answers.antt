use Rattle.std.proofs.Common.{arith}
use Rattle.index.proofs.Seeking.{seeking-start, seeking-none, seeking-few, seeking-found, seeking-on}
use Rattle.index.proofs.filling.resolved.Goals as goal

pub loop-init : goal.loop-init
loop-init c = record { seeking = seeking-start _ _ _ c.requires c.head_of.ensures c.number_at-p.ensures; small = omega arith; low = omega arith }

pub returns-then-p-eq0 : goal.returns-then-p-eq0
returns-then-p-eq0 c = (seeking-none _ _ c.loop.invariant.seeking (omega arith), c.loop.invariant.low)

pub declared_so_far-kept-requires : goal.declared_so_far-kept-requires
declared_so_far-kept-requires c = (seeking-few _ _ c.loop.invariant.seeking (omega arith) c.requires, c.loop.invariant.low)

pub returns-then-settled : goal.returns-then-settled
returns-then-settled c = (seeking-found _ _ c.loop.invariant.seeking (omega arith) c.declared_so_far-kept.ensures.0 c.if-settled.true, c.declared_so_far-kept.ensures.1)

pub loop-preserved : goal.loop-preserved
loop-preserved c = record { seeking = seeking-on _ _ c.loop.invariant.seeking (omega arith) _ c.requires c.number_at-p-in-loop.ensures c.declared_so_far-kept.ensures.0; small = omega arith; low = c.declared_so_far-kept.ensures.1 }

pub returns-then-p-eq0-2 : goal.returns-then-p-eq0-2
returns-then-p-eq0-2 c = (seeking-none _ _ c.loop.invariant.seeking (omega arith), c.loop.invariant.low)
