-- The laws of units and of decoding as one rule set, for the `tactic` attribute of src/lib.rt;
-- those of copying are another (Copying.antt).
use borrow.Author.Rules.{rules}
use Rattle.entities.proofs.Decoding.{unit-here, starts-other, unit-add, unit-less, decoding-start, decoding-on, decoding-end, decoding-none}

pub ruleset laws = (unit-add, unit-less, decoding-start, decoding-on, decoding-end, decoding-none, rules)

-- what stands at a place of a text
pub ruleset units = (unit-here, starts-other, rules)
