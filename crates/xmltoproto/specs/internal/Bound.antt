-- The most bytes that an item adds to the source, by the lengths of its texts.
use Rattle.std.specs.Prelude.{Option, Some, None, ℕ, zero, suc, ◌+◌, ◌*◌, ◌≤◌, ◌<◌, ◌^◌, eqb, length}
use Rattle.texts.specs.Choice.{pick}
use Rattle.printing.specs.Decimal.{decimal}
use Rattle.index.specs.Declarations.{declaration_of}
use Rattle.index.specs.declared.declaration.Declaration.{Declaration}
use Rattle.index.specs.declared.declaration.Declaration.TheVariants.{Named, Typed}
use Rattle.model.specs.Schema.{Item, Schema, item_at, a_member, a_ref, a_composite, an_enum, a_value, a_message, a_group, a_field}
use Rattle.xmltoproto.specs.Types.{Form, form_of, built_in}

-- The numbers are the lengths of the fixed texts, as src/bound.rt names them.

-- ---- a line with a name of n bytes and a number of k digits

-- with a type name of p bytes; snake case at most doubles the name
abbrev pub named_most : ℕ → ℕ → ℕ → ℕ
named_most n k p = 10 + 2 * n + k + p

-- its comment on an encoding of e bytes, if there is one; a quoted byte takes six at most
unfoldable pub note_most : ℕ → ℕ
note_most zero = 0
note_most (suc e) = 81 + 6 * suc e

-- of a type or member, with its option and comment
abbrev pub typed_most : ℕ → ℕ → Form → ℕ
typed_most n k t = named_most n k (length t.primitive) + 28 + length (decimal t.size) + note_most (length t.encoding)

-- ---- by kind; an enum, a composite, a message or a group is counted without what it holds

-- an enum
abbrev pub enum_most : Item → ℕ
enum_most e = 11 + length e.name

-- a value, with its enum's prefix
abbrev pub value_most : Item → Item → ℕ
value_most enum v = 8 + 2 * length enum.name + 2 * length v.name + length v.second

-- a composite
abbrev pub composite_most : Item → ℕ
composite_most c = 14 + length c.name

-- a member, whose number has ten digits at most
abbrev pub member_most : Item → ℕ
member_most m = typed_most (length m.name) 10 (form_of m)

-- a ref, whose number has ten digits at most
abbrev pub ref_most : Item → ℕ
ref_most r = named_most (length r.name) 10 (length r.second)

-- a message
abbrev pub message_most : Item → ℕ
message_most m = 45 + length m.name + length (decimal m.number)

-- a group
abbrev pub group_most : Item → ℕ
group_most g = 34 + 4 * length g.name + length (decimal g.number)

-- a field, by what its type name is declared as; one that is not declared may be a built-in
abbrev pub field_by : Schema → Item → Option Declaration → ℕ
field_by s f (Some Named) = named_most (length f.name) (length (decimal f.number)) (length f.second)
field_by s f (Some (Typed t)) = typed_most (length f.name) (length (decimal f.number)) (form_of (item_at s t))
field_by s f None = typed_most (length f.name) (length (decimal f.number)) (built_in f.second)

-- a field
unfoldable pub field_most : Schema → Item → ℕ
field_most s f = field_by s f (declaration_of s f.second)

-- n if the item is of this kind, otherwise 0
abbrev pub only : ℕ → Item → ℕ → ℕ
only kind it n = pick (eqb it.kind kind) n 0

-- what the item at i adds at most, by its kind
unfoldable pub share : Schema → ℕ → ℕ
share s i =
    let it = item_at s i in
    only an_enum it (enum_most it) + only a_value it (value_most (item_at s it.owner) it) + only a_composite it (composite_most it) + only a_member it (member_most it)
    + only a_ref it (ref_most it) + only a_message it (message_most it) + only a_group it (group_most it) + only a_field it (field_most s it)

-- ---- as the code counts

-- r is at least n, and small enough for a sum over 1,024 items to fit in 64 bits
pub record Covers (r n : ℕ) : Type 0 where
  pub least : n ≤ r
  pub small : r < 2 ^ 40
