-- Rules: Plain schemas and the wire sheet. The wire sheet of a schema, and how it is shown as
-- lines.
use Rattle.std.specs.Prelude.{List, [], ◌∷◌, ◌++◌, map, ℕ}
use Rattle.texts.specs.Choice.{pick}
use Rattle.texts.specs.Text.{ascii}
use Rattle.texts.specs.Lists.{each}
use Rattle.printing.specs.Decimal.{decimal}
use Rattle.names.specs.Conversions.{camel_to_snake, camel_to_screaming_snake, singular_pascal}
use Rattle.charsets.specs.Charset.{compatible}
use Rattle.model.specs.Schema.{Item, Schema, item_at, all_of, under, a_member, a_ref, an_enum, a_value, a_message, a_group, a_field}
use Rattle.xmltoproto.specs.Types.{Form, form_of, is_char, is_raw, chars, Meaning, declared, typed, unknown, meaning}
use Rattle.xmltoproto.specs.Composites.{printed_composites}

-- how a part or field lies on the wire (the scope's "kind")
pub data Kind : Type 0 where
  -- a single primitive but char
  single : List ℕ → Kind
  -- text of n, in a compatible encoding
  text : ℕ → Kind
  -- text of n in an incompatible encoding, which is kept whole
  text_in : ℕ → List ℕ → Kind
  -- n bytes, from uint8 or int8
  raw : ℕ → Kind
  -- an enum or a composite
  named : List ℕ → Kind

-- a value of an enum
pub record Value : Type 0 where
  pub name : List ℕ
  pub value : List ℕ

-- an enum
pub record Enum : Type 0 where
  pub name : List ℕ
  pub values : List Value

-- a member or ref of a composite
pub record Part : Type 0 where
  pub kind : Kind
  pub name : List ℕ

-- a printed composite
pub record Composite : Type 0 where
  pub name : List ℕ
  pub parts : List Part

-- a field
pub record Field : Type 0 where
  pub kind : Kind
  pub name : List ℕ
  pub id : ℕ

-- a group
pub record Group : Type 0 where
  pub name : List ℕ
  pub singular : List ℕ
  pub id : ℕ
  pub fields : List Field

-- a message
pub record Message : Type 0 where
  pub name : List ℕ
  pub id : ℕ
  pub fields : List Field
  pub groups : List Group

-- the wire sheet (the scope's "sheet"); two sheets are equal when all their parts are
pub record Sheet : Type 0 where
  pub package_name : List ℕ
  pub id : ℕ
  pub version : ℕ
  pub enums : List Enum
  pub composites : List Composite
  pub messages : List Message

-- ---- the sheet of a schema

-- the kind of a form; of an array that no proto field represents it is the primitive, but no
-- accepted schema prints one
unfoldable pub kind_of : Form → Kind
kind_of t =
    pick (is_char t)
    (pick (compatible t.encoding) (text (chars t)) (text_in (chars t) t.encoding))
    (pick (is_raw t) (raw t.size) (single t.primitive))

-- the kind that a field's type name stands for
abbrev pub kind_by : List ℕ → Meaning → Kind
kind_by name declared = named name
kind_by name (typed t) = kind_of t
kind_by name unknown = named name

-- a value: its name in screaming snake case, and its text, which the model holds trimmed
unfoldable pub value_of : Item → Value
value_of v = record { name = camel_to_screaming_snake v.name; value = v.second }

-- the enum at e, with its values
unfoldable pub enum_of : Schema → ℕ → Enum
enum_of s e = record { name = (item_at s e).name; values = map (λ v. value_of (item_at s v)) (under a_value e s) }

-- a member: its kind, and its name in snake case
unfoldable pub member_of : Item → Part
member_of m = record { kind = kind_of (form_of m); name = camel_to_snake m.name }

-- a ref: what it names, and its name in snake case
unfoldable pub ref_of : Item → Part
ref_of r = record { kind = named r.second; name = camel_to_snake r.name }

-- the composite at c: its members, then its refs
unfoldable pub composite_of : Schema → ℕ → Composite
composite_of s c =
    record {
      name = (item_at s c).name;
      parts = map (λ m. member_of (item_at s m)) (under a_member c s) ++ map (λ r. ref_of (item_at s r)) (under a_ref c s);
    }

-- a field: its kind, its name in snake case, and its id
unfoldable pub field_of : Schema → Item → Field
field_of s f = record { kind = kind_by f.second (meaning s f.second); name = camel_to_snake f.name; id = f.number }

-- the group at g: its name in snake case and in the singular, its id, and its fields
unfoldable pub group_of : Schema → ℕ → Group
group_of s g =
    record {
      name = camel_to_snake (item_at s g).name;
      singular = singular_pascal (item_at s g).name;
      id = (item_at s g).number;
      fields = map (λ f. field_of s (item_at s f)) (under a_field g s);
    }

-- the message at m: its fields, then its groups
unfoldable pub message_of : Schema → ℕ → Message
message_of s m =
    record {
      name = (item_at s m).name;
      id = (item_at s m).number;
      fields = map (λ f. field_of s (item_at s f)) (under a_field m s);
      groups = map (group_of s) (under a_group m s);
    }

-- the wire sheet of a schema
unfoldable pub sheet : Schema → Sheet
sheet s =
    record {
      package_name = s.package_name;
      id = s.id;
      version = s.version;
      enums = map (enum_of s) (all_of an_enum s);
      composites = map (composite_of s) (printed_composites s);
      messages = map (message_of s) (all_of a_message s);
    }

-- ---- shown as lines

-- a line: a word and its parts with tabs between them, then a line feed
unfoldable pub shown : List ℕ → List (List ℕ) → List ℕ
shown word [] = word ++ ascii "\n"
shown word (p ∷ ps) = word ++ ascii "\t" ++ shown p ps

-- a kind as one part of a line, with single spaces
unfoldable pub kind_shown : Kind → List ℕ
kind_shown (single p) = p
kind_shown (text n) = ascii "text " ++ decimal n
kind_shown (text_in n e) = ascii "text " ++ decimal n ++ ascii " " ++ e
kind_shown (raw n) = ascii "raw " ++ decimal n
kind_shown (named n) = ascii "named " ++ n

-- an enum's line, then a line for each value
unfoldable pub enum_shown : Enum → List ℕ
enum_shown e = shown (ascii "enum") (e.name ∷ []) ++ each (λ v. shown (ascii "value") (v.name ∷ v.value ∷ [])) e.values

-- a composite's line, then a line for each part
unfoldable pub composite_shown : Composite → List ℕ
composite_shown c = shown (ascii "composite") (c.name ∷ []) ++ each (λ p. shown (ascii "part") (kind_shown p.kind ∷ p.name ∷ [])) c.parts

-- a field's line
unfoldable pub field_shown : Field → List ℕ
field_shown f = shown (ascii "field") (kind_shown f.kind ∷ f.name ∷ decimal f.id ∷ [])

-- a group's line, then one for each field, then `end`
unfoldable pub group_shown : Group → List ℕ
group_shown g =
    shown (ascii "group") (g.name ∷ g.singular ∷ decimal g.id ∷ []) ++ each field_shown g.fields ++ shown (ascii "end") []

-- a message's line, then one for each field, then the lines of its groups
unfoldable pub message_shown : Message → List ℕ
message_shown m = shown (ascii "message") (m.name ∷ decimal m.id ∷ []) ++ each field_shown m.fields ++ each group_shown m.groups

-- the whole sheet
unfoldable pub sheet_lines : Sheet → List ℕ
sheet_lines s =
    shown (ascii "schema") (s.package_name ∷ decimal s.id ∷ decimal s.version ∷ [])
    ++ each enum_shown s.enums ++ each composite_shown s.composites ++ each message_shown s.messages
