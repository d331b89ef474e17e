-- Searches and walks among the items, as `View` answers them.
use Rattle.std.specs.Prelude.{Bool, List, ℕ, drop, Option}
use Rattle.model.specs.Schema.{Item, Schema, is_kind, is_under, positions_from, last}
use Rattle.model.specs.declared.search.OfKind.{OfKind}
use Rattle.model.specs.declared.search.Under.{Under}

-- the last item of a kind under an owner
unfoldable pub last_under : ℕ → ℕ → List Item → Option ℕ
last_under kind owner items = last (positions_from 0 (is_under kind owner) items)

-- what a search for a kind tests
abbrev pub is_of : OfKind → Item → Bool
is_of t = is_kind t.kind

-- what a search under an owner tests
abbrev pub held : Under → Item → Bool
held t = is_under t.kind t.owner

-- the positions of the items that pass a test, from a position on
unfoldable pub ahead : (Item → Bool) → ℕ → Schema → List ℕ
ahead test from s = positions_from from test (drop from s.items)
