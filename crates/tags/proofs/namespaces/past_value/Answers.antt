use borrow.Author.Rules.{rules}
use Rattle.tags.proofs.Searching.{stands_on, stands-fits}
use Rattle.tags.proofs.Dropping.{double-next, single-next}
use Rattle.tags.proofs.namespaces.past_value.Goals as goal

pub overflow_add-from : goal.overflow_add-from
overflow_add-from c = search (stands-fits, rules)

pub past_quoted-requires : goal.past_quoted-requires
past_quoted-requires c = search (stands_on, rules)

pub returns-then-starts_with : goal.returns-then-starts_with
returns-then-starts_with c = double-next _ _ _ c.starts_with.ensures c.if-starts_with.true c.past_quoted.ensures

pub overflow_add-from-then-starts_with-2 : goal.overflow_add-from-then-starts_with-2
overflow_add-from-then-starts_with-2 c = search (stands-fits, rules)

pub past_quoted-requires-then-starts_with-2 : goal.past_quoted-requires-then-starts_with-2
past_quoted-requires-then-starts_with-2 c = search (stands_on, rules)

pub returns-then-starts_with-2 : goal.returns-then-starts_with-2
returns-then-starts_with-2 c = single-next _ _ _ c.starts_with.ensures c.if-starts_with.false c.starts_with-2.ensures c.if-starts_with-2.true c.past_quoted-then-starts_with-2.ensures
