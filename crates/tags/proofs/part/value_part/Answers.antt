-- `search` closes these goals with the rule set named here; `using(..)` with that set does not.
use Rattle.tags.proofs.Laws.{laws}
use Rattle.tags.proofs.part.value_part.Goals as goal

pub overflow_add-at : goal.overflow_add-at
overflow_add-at c = search laws

pub short_or_quoted-requires : goal.short_or_quoted-requires
short_or_quoted-requires c = search laws

pub overflow_add-at-then-starts_with-2 : goal.overflow_add-at-then-starts_with-2
overflow_add-at-then-starts_with-2 c = search laws

pub short_or_quoted-requires-then-starts_with-2 : goal.short_or_quoted-requires-then-starts_with-2
short_or_quoted-requires-then-starts_with-2 c = search laws
