-- Rules: Printing. Which composites are printed: all but messageHeader and groupSizeEncoding.
use Rattle.std.specs.Prelude.{Bool, not, List, ℕ, eqb}
use Rattle.texts.specs.Choice.{◌or◌, ◌and◌}
use Rattle.texts.specs.Text.{ascii, same}
use Rattle.model.specs.Schema.{Item, Schema, positions_from, a_composite}

-- a composite is printed, by its name
unfoldable pub is_printed : Item → Bool
is_printed c = not (same c.name (ascii "messageHeader") or same c.name (ascii "groupSizeEncoding"))

-- the positions of the printed composites
unfoldable pub printed_composites : Schema → List ℕ
printed_composites s = positions_from 0 (λ it. eqb it.kind a_composite and is_printed it) s.items
