-- The rule sets that functions name in `using(..)`, one for each part.
use Rattle.builder.proofs.Takes.{value-least, value_room, taken-absent, taken-value, number-absent, number-value, number-told, digit-told, number_fits, number_at, given-not, given_yes, made-draft}
use Rattle.builder.proofs.Stacking.{top-none, top-some, top-here, top-same, parent-same}
use Rattle.builder.proofs.Adding.{after-refused, after_same, initial_intact, initial_sound, number-some, number-none, put-full, put-fine, made-low, made-high, made-sound, made-steady, made-added, owner-shown, owner-none}
use Rattle.builder.proofs.Finding.{type-reads, field-reads, id-reads, version-reads, number-ready, open-ready, ready-current, ready-emptied, named-adds, field-adds, enum-adds, type-adds}
use Rattle.builder.proofs.Opening.{ref-dropped, value-lost as value-dropped, ref-on, composite-on, value_on, enum-on}
use Rattle.builder.proofs.Dispatching.{package-asked, open-deep, pushed-opens, open_done}
use Rattle.builder.proofs.Stacking.{pop-sound}
use Rattle.builder.proofs.Closing.{put_value-none, put_value-fits, put_value-some, value-lost, value-closed, closed-same, closed-current, close-wrong, close-right, text-lost, text-room, text-fits, text-on}

pub ruleset taking = (value-least, value_room, taken-absent, taken-value, number-absent, number-value, number-told, digit-told, number_fits, number_at, given-not, given_yes, made-draft)

pub ruleset stacking = (top-none, top-some, top-here, top-same, parent-same, initial_intact, initial_sound)

pub ruleset adding = (after-refused, number-some, number-none, put-full, put-fine, made-low, made-high, made-sound, made-steady, made-added, owner-shown, owner-none)

pub ruleset opening = (type-reads, field-reads, id-reads, version-reads, number-ready, open-ready, ready-current, ready-emptied, named-adds, field-adds, enum-adds, type-adds, ref-dropped, value-dropped, ref-on, composite-on, value_on, enum-on, package-asked, open-deep, pushed-opens, open_done)

pub ruleset closing = (pop-sound, put_value-none, put_value-fits, put_value-some, value-lost, value-closed, closed-same, closed-current, close-wrong, close-right, text-lost, text-room, text-fits, text-on)
