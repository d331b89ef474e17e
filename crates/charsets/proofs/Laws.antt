-- The laws of cleaning as one rule set, for the `tactic` attribute of src/lib.rt.
use borrow.Author.Rules.{rules}
use Rattle.charsets.proofs.Cleaning.{passed_start, passed_on, cleaning-start, cleaning-mark, cleaning-more, cleaning-end, compatible-none, compatible-long, compatible-short}

pub ruleset laws = (passed_start, passed_on, cleaning-start, cleaning-mark, cleaning-more, cleaning-end, compatible-none, compatible-long, compatible-short, rules)
