-- The rule sets that functions name in `using(..)`. Those for known names stand by themselves.
use borrow.Author.Rules.{rules}
use Rattle.texts.proofs.Scanning.{scan-start, scan-on, scan-stop, scan-end, until-on, until_stop, byte-on, byte-stop}
use Rattle.tags.proofs.Searching.{stands_on, stands-fits, search-start, search-found, search-on, search-none}
use Rattle.tags.proofs.Naming.{prefix-some, prefix-none, local-within, local-fits, xmlns-whole, xmlns-front}
use Rattle.tags.proofs.Parting.{quoted-ends, quoted-open, value-double, value-single, value_none, attribute-unnamed, attribute-valued, attribute-bare, part-open, part_end, part-self-end, part-attribute}
use Rattle.tags.proofs.Tagging.{going_start, part-less, part-value, going_on, going_end, going-bad}
use Rattle.tags.proofs.Looking.{found_none, found_some, named-yes, named-no, named-xmlns, named-with, looking-start, looking-on, looking-end, looking-bad}
use Rattle.tags.proofs.Knowing.{spaced-fits, spaced-quick, known-less, other-quick}
use Rattle.tags.proofs.Matching.{short-power, long-power, known-short, known-long, known-whole, is-encoding, is-semanticversion, is-short, is-long}
use Rattle.tags.proofs.Coding.{codes-schema, codes-type, codes-enum, codes-other, known_past, known-number, known-name, known-second, known-encoding, known-nowhere, named-above, named-below, by_name, looked-end, looked-bad, all_start, quick-less, quick-value, quick-named, quick-on, quick-end, quick-bad, all-on, all_end, all-bad, declares-known, declares-tested, declares-none, declares-not}
use Rattle.tags.proofs.Dropping.{going-past, all-past}
use Rattle.tags.proofs.Stopping.{plain-prefix, plain-past, plain-ends, colon-ends, colon-prefix, raw-prefix, raw-fits}
use Rattle.tags.proofs.Begun.{begin-short, begin-long, begin-short-power, begin-long-power, usual-short, usual-long, begin-schema, space-ends, bracket-ends, begin-fits, known-begins, plain-begins}

pub ruleset laws = (scan-start, scan-on, scan-stop, scan-end, until-on, until_stop, byte-on, byte-stop, stands_on, stands-fits, search-start, search-found, search-on, search-none, prefix-some, prefix-none, local-within, local-fits, xmlns-whole, xmlns-front, quoted-ends, quoted-open, value-double, value-single, value_none, attribute-unnamed, attribute-valued, attribute-bare, part-open, part_end, part-self-end, part-attribute, going_start, part-less, part-value, going_on, going_end, going-bad, found_none, found_some, named-yes, named-no, named-xmlns, named-with, looking-start, looking-on, looking-end, looking-bad, spaced-fits, spaced-quick, known-less, other-quick, known_past, known-number, known-name, known-second, known-encoding, known-nowhere, named-above, named-below, by_name, looked-end, looked-bad, all_start, quick-less, quick-value, quick-named, quick-on, quick-end, quick-bad, all-on, all_end, all-bad, declares-known, declares-tested, declares-none, declares-not, going-past, all-past, rules)

-- known names, compared as words
pub ruleset matching = (short-power, long-power, known-short, known-long, known-whole, is-encoding, is-semanticversion, is-short, is-long, rules)

pub ruleset beginning = (begin-short, begin-long, begin-short-power, begin-long-power, usual-short, usual-long, begin-schema, space-ends, bracket-ends, begin-fits, known-begins, plain-begins, raw-prefix, raw-fits, rules)

-- raw names
pub ruleset stopping = (plain-prefix, plain-past, plain-ends, colon-ends, colon-prefix, rules)
