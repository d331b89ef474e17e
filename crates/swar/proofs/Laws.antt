-- The laws of words, as one set for proofs to cite.
use borrow.Author.Rules.{rules}
use Rattle.texts.proofs.Comparing.{same-lengths}
use Rattle.swar.proofs.Lanes.{marks-fit, marks-less, marks-made, low-less, low-made}
use Rattle.swar.proofs.Finding.{zeros-fit, word-lacks, word-stop, word_fits, word-within}
use Rattle.swar.proofs.Standing.{stands-short, stands-long, stands-not}
use Rattle.swar.proofs.Pairing.{flagged-start, flagged-more}
use Rattle.swar.proofs.Alike.{words-decide, halves-decide}

pub ruleset laws = (marks-fit, marks-less, marks-made, low-less, low-made, zeros-fit, word-lacks, word-stop, word_fits, word-within, stands-short, stands-long, stands-not, flagged-start, flagged-more, same-lengths, words-decide, halves-decide, rules)
