use Rattle.std.proofs.Common.{arith, refl}
use Rattle.index.proofs.Adding.{number-nothing, placed-in, placed_below, number-type, number-named}
use Rattle.index.proofs.sorted.Names.code_of.Goals as goal

pub returns-in_default : goal.returns-in_default
returns-in_default c =
    (rw c.self.view_is at (number-nothing _ _ _ c.self.invariant c.slot_of.ensures c.in_default.is), omega arith)

pub offset_bounds-self-inside-p : goal.offset_bounds-self-inside-p
offset_bounds-self-inside-p c =
    let o = c.self.invariant in let l = placed-in _ _ _ o c.slot_of.ensures c.in-Ok.is in omega (arith, o.few, o.most)

pub bounds-self-inside-p : goal.bounds-self-inside-p
bounds-self-inside-p c =
    let o = c.self.invariant in let l = placed-in _ _ _ o c.slot_of.ensures c.in-Ok.is in omega (arith, o.few, o.most)

pub returns-then-kind-eq-TYPE : goal.returns-then-kind-eq-TYPE
returns-then-kind-eq-TYPE c =
    let o = c.self.invariant in
    let l = placed_below _ _ _ o c.slot_of.ensures c.in-Ok.is refl in
    (rw c.self.view_is at (number-type _ _ _ o c.slot_of.ensures c.in-Ok.is refl c.kind.ensures c.if-kind-eq-TYPE.true), omega arith)

pub returns-else-kind-eq-TYPE : goal.returns-else-kind-eq-TYPE
returns-else-kind-eq-TYPE c =
    (rw c.self.view_is at (number-named _ _ _ c.self.invariant c.slot_of.ensures c.in-Ok.is refl c.kind.ensures c.if-kind-eq-TYPE.false), omega arith)
