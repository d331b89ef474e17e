-- The laws of numbers as one rule set, for the `tactic` attribute of src/lib.rt.
use borrow.Author.Rules.{rules}
use Rattle.numbers.proofs.Numbering.{digits-none, counting-start, counting-end, counting-below, counting-above, counting_more, counting-on, number-empty, number-signed, number-plain, digit-none, digit-said}

pub ruleset laws = (digits-none, counting-start, counting-end, counting-below, counting-above, counting_more, counting-on, number-empty, number-signed, number-plain, digit-none, digit-said, rules)
