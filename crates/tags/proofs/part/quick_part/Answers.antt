-- `search` closes these goals with the rule set named here; `using(..)` with that set does not.
use Prim.Native.Nat.{◌+◌}
use Rattle.tags.specs.internal.Known.{IsKnown}
use Rattle.tags.proofs.Laws.{laws}
use Rattle.tags.proofs.part.quick_part.Goals as goal

pub overflow_add-i : goal.overflow_add-i
overflow_add-i c = search laws

pub known_at-requires : goal.known_at-requires
known_at-requires c = search laws

pub returns-in-Some : goal.returns-in-Some
returns-in-Some c = let k : IsKnown c.args.doc.now (c.args.at + 1) c.in-Some.known = c.in-Some.ensures in search laws
