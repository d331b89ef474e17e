-- `search` closes these goals with the rule set named here; `using(..)` with that set does not.
use Rattle.tags.proofs.Laws.{laws}
use Rattle.tags.proofs.tag.attribute.Goals as goal

pub noted_one-noted-requires : goal.noted_one-noted-requires
noted_one-noted-requires c = let f = rw c.in-Ok-Attribute.field-0-is at c.in-Ok-Attribute.is in search laws

pub loop-a-smaller : goal.loop-a-smaller
loop-a-smaller c = let f = rw c.in-Ok-Attribute.field-0-is at c.in-Ok-Attribute.is in search laws

pub loop-a-preserved : goal.loop-a-preserved
loop-a-preserved c = let f = rw c.in-Ok-Attribute.field-0-is at c.in-Ok-Attribute.is in search laws

pub returns-in-Ok-TagEnd : goal.returns-in-Ok-TagEnd
returns-in-Ok-TagEnd c = let f = rw c.in-Ok-TagEnd.field-0-is at c.in-Ok-TagEnd.is in search laws

pub returns-in-Err : goal.returns-in-Err
returns-in-Err c = search laws
