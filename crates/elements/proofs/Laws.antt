-- The laws of the elements' names as one rule set, for the `tactic` attribute of src/lib.rt.
use borrow.Author.Rules.{rules}
use Rattle.elements.proofs.Naming.{is-schema, is-type, is-ref, is-composite, is-enum, is_later, is-value, is-message, is-group, is_field, is-other}

pub ruleset laws = (is-schema, is-type, is-ref, is-composite, is-enum, is_later, is-value, is-message, is-group, is_field, is-other, rules)
