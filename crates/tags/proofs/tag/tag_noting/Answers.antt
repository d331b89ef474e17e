-- `search` closes these goals with the rule set named here; `using(..)` with that set does not.
use Rattle.std.proofs.Common.{refl, sym, ◌∙◌, ap, arith, Ok}
use Rattle.tags.proofs.Coding.{quick-less, quick-on, all-on}
use Rattle.tags.proofs.Declaring.{declares-more}
use Rattle.tags.proofs.Dropping.{going-past, all-past}
use Rattle.tags.proofs.Laws.{laws}
use Rattle.tags.proofs.tag.tag_noting.Goals as goal

pub noted_by-noted-requires : goal.noted_by-noted-requires
noted_by-noted-requires c = let f = c.in-Ok-Attribute.is ∙ ap Ok (rw c.in-Ok-Attribute.is at c.in-Ok-Attribute.field-0-is) in search laws

pub loop-a-smaller : goal.loop-a-smaller
loop-a-smaller c = let f = c.in-Ok-Attribute.is ∙ ap Ok (rw c.in-Ok-Attribute.is at c.in-Ok-Attribute.field-0-is) in search laws

pub loop-a-preserved : goal.loop-a-preserved
loop-a-preserved c =
    let f = c.in-Ok-Attribute.is ∙ ap Ok (rw c.in-Ok-Attribute.is at c.in-Ok-Attribute.field-0-is) in
    (search laws, search laws, search laws, search laws)

pub returns-in-Ok-TagEnd : goal.returns-in-Ok-TagEnd
returns-in-Ok-TagEnd c = let f = c.in-Ok-TagEnd.is ∙ ap Ok (rw c.in-Ok-TagEnd.is at c.in-Ok-TagEnd.field-0-is) in search laws

pub returns-in-Err : goal.returns-in-Err
returns-in-Err c = search laws

pub loop-a-smaller-then-is_namespace : goal.loop-a-smaller-then-is_namespace
loop-a-smaller-then-is_namespace c =
    let f = c.in-Ok-Attribute.is ∙ ap Ok (rw c.in-Ok-Attribute.is at c.in-Ok-Attribute.field-0-is) in
    omega (arith, quick-less _ c.args.at _ _ c.quick_part-code.ensures f, c.past_namespaces-i.ensures.forward)

pub loop-a-preserved-then-is_namespace : goal.loop-a-preserved-then-is_namespace
loop-a-preserved-then-is_namespace c =
    let f = c.in-Ok-Attribute.is ∙ ap Ok (rw c.in-Ok-Attribute.is at c.in-Ok-Attribute.field-0-is) in
    let q = c.quick_part-code.ensures in
    let m = declares-more _ _ _ c.loop-a.noted (sym (c.is_namespace.ensures.yes c.if-is_namespace.true)) refl in
    let u = c.past_namespaces-i.ensures in
    (going-past (quick-on _ _ _ _ q c.loop-a.invariant.0 f) u, all-past (all-on _ _ _ _ q c.loop-a.invariant.1 f m) u, c.loop-a.invariant.2, c.loop-a.invariant.3)
