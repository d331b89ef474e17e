-- The rule sets that functions name in `using(..)`.
use borrow.Author.Rules.{rules}
use Rattle.builder.proofs.Sounding.{ready-room, tag-known}
use Rattle.xmlschema.proofs.Driving.{drive-start, drive-broken, drive-open, drive-done, drive-ready, drive-document, drive-inside, drive-element, drive-noted, drive-less, drive-refused, drive-on}
use Rattle.xmlschema.proofs.Stepping.{step-text, step-open, step-close, text-ready, tag-ready, ready-document, tag-is, close-is}
use Rattle.xmlschema.proofs.Answering.{answer-long, answer-records, answer-text, answer-high, answer-read}

-- of one step
pub ruleset stepping = (step-text, step-open, step-close, text-ready, tag-ready, ready-room, ready-document, tag-is, tag-known, close-is, rules)

-- of the loop over events
pub ruleset driving = (drive-start, drive-broken, drive-open, drive-done, drive-ready, drive-document, drive-inside, drive-element, drive-noted, drive-less, drive-refused, drive-on, rules)

-- of the whole answer
pub ruleset answering = (answer-long, answer-records, answer-text, answer-high, answer-read, rules)
