-- The laws of trimming, as one set for proofs to cite.
use borrow.Author.Rules.{rules}
use Rattle.texts.proofs.Trimming.{shrink-start, shrink-on, shrink-stop, shrink-end}

pub ruleset laws = (shrink-start, shrink-on, shrink-stop, shrink-end, rules)
