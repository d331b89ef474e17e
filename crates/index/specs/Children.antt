-- A walk over the items of a kind under an owner.
use Rattle.std.specs.Prelude.{List, ℕ}
use Rattle.model.specs.Search.{ahead, held}
use Rattle.index.specs.declared.seen.Children.{Children}

-- the positions that it has still to give
abbrev pub left : Children → List ℕ
left c = ahead (held c.by) c.from c.index.now
