-- Rules: The builder. A schema: package, id, version, and its items in the order in which they were
-- added.
use Rattle.std.specs.Prelude.{Bool, false, List, [], ◌∷◌, ℕ, ◌+◌, eqb, get_or, drop, Option, Some, None}
use Rattle.texts.specs.Choice.{pick, ◌and◌}
use Rattle.texts.specs.Text.{same}

-- the kinds of items; this one is a type of the schema itself
abbrev pub a_type : ℕ
a_type = 1

-- a type within a composite
abbrev pub a_member : ℕ
a_member = 2

-- a ref of a composite
abbrev pub a_ref : ℕ
a_ref = 3

-- a composite
abbrev pub a_composite : ℕ
a_composite = 4

-- an enum
abbrev pub an_enum : ℕ
an_enum = 5

-- a value of an enum
abbrev pub a_value : ℕ
a_value = 6

-- a message
abbrev pub a_message : ℕ
a_message = 7

-- a group of a message
abbrev pub a_group : ℕ
a_group = 8

-- a field of a message or group
abbrev pub a_field : ℕ
a_field = 9

-- one thing that was added to the schema (the scope's "item")
pub record Item : Type 0 where
  -- one of the nine kinds
  pub kind : ℕ
  -- the position, among all items, of the composite, enum, message or group that it was added to; 0
  -- for what is added to the schema itself
  pub owner : ℕ
  pub name : List ℕ
  -- primitiveType of a type or member, type of a ref or field, encodingType of an enum, value of a
  -- validValue
  pub second : List ℕ
  -- the length of a type or member, the id of a message, group or field
  pub number : ℕ
  -- whether that length is in the document
  pub given : Bool
  -- characterEncoding of a type or member, empty if absent
  pub encoding : List ℕ

-- what a document says (the scope's "schema")
pub record Schema : Type 0 where
  pub package_name : List ℕ
  pub id : ℕ
  pub version : ℕ
  pub items : List Item

-- what stands for an item past the last one
abbrev pub no_item : Item
no_item =
    record {
      kind = 0;
      owner = 0;
      name = [];
      second = [];
      number = 0;
      given = false;
      encoding = [];
    }

-- the item at a position, from 0
abbrev pub item_at : Schema → ℕ → Item
item_at s i = get_or s.items i no_item

-- the positions of the items that pass a test, in order; the list's first item is at position k
unfoldable pub positions_from : ℕ → (Item → Bool) → List Item → List ℕ
positions_from k p [] = []
positions_from k p (x ∷ xs) = let rest = positions_from (k + 1) p xs in pick (p x) (k ∷ rest) rest

-- whether an item is of a kind
abbrev pub is_kind : ℕ → Item → Bool
is_kind kind it = eqb it.kind kind

-- whether it is of a kind, and held by an owner
abbrev pub is_under : ℕ → ℕ → Item → Bool
is_under kind owner it = is_kind kind it and eqb it.owner owner

-- whether it is of a kind, and has a name
abbrev pub is_named : ℕ → List ℕ → Item → Bool
is_named kind name it = is_kind kind it and same it.name name

-- the positions of all items of a kind
unfoldable pub all_of : ℕ → Schema → List ℕ
all_of kind s = positions_from 0 (is_kind kind) s.items

-- the positions of the items of a kind under an owner
unfoldable pub under : ℕ → ℕ → Schema → List ℕ
under kind owner s = positions_from 0 (is_under kind owner) s.items

-- the first element of a list
unfoldable pub first : List ℕ → Option ℕ
first [] = None
first (i ∷ is) = Some i

-- the first item of a kind under an owner, from a position on
unfoldable pub next_under : ℕ → ℕ → ℕ → Schema → Option ℕ
next_under kind owner from s = first (positions_from from (is_under kind owner) (drop from s.items))

-- the last element of a list
unfoldable pub last : List ℕ → Option ℕ
last [] = None
last (i ∷ []) = Some i
last (i ∷ j ∷ is) = last (j ∷ is)

-- the last item of a kind with a name: of several declarations the last counts
unfoldable pub last_named : ℕ → List ℕ → Schema → Option ℕ
last_named kind name s = last (positions_from 0 (is_named kind name) s.items)
