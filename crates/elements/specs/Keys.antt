-- Rules: The builder. The names whose values are noted of a tag, by its element: at least those that
-- it looks up (what becomes of them is said in Builder.antt of builder).
use Rattle.std.specs.Prelude.{List, [], ℕ}
use Rattle.texts.specs.Text.{ascii}
use Rattle.elements.specs.declared.Element.{Element}
use Rattle.elements.specs.declared.Element.TheVariants.{MessageSchema, «Type», Ref, Composite, Enum, ValidValue, Message, Group, Field, Other}

-- four names, by what their values become in an item; [] where fewer are noted. A schema's name is
-- its package, its second text its version
pub record Keys : Type 0 where
  pub number : List ℕ
  pub name : List ℕ
  pub second : List ℕ
  pub encoding : List ℕ

abbrev pub keys : List ℕ → List ℕ → List ℕ → List ℕ → Keys
keys number name second encoding =
    record { number = number; name = name; second = second; encoding = encoding }

-- of messageSchema
abbrev pub schema_keys : Keys
schema_keys = keys (ascii "id") (ascii "package") (ascii "version") []

-- of type
abbrev pub type_keys : Keys
type_keys = keys (ascii "length") (ascii "name") (ascii "primitiveType") (ascii "characterEncoding")

-- of enum
abbrev pub enum_keys : Keys
enum_keys = keys [] (ascii "name") (ascii "encodingType") []

-- of every other element
abbrev pub field_keys : Keys
field_keys = keys (ascii "id") (ascii "name") (ascii "type") []

abbrev pub keys_of : Element → Keys
keys_of MessageSchema = schema_keys
keys_of «Type» = type_keys
keys_of Ref = field_keys
keys_of Composite = field_keys
keys_of Enum = enum_keys
keys_of ValidValue = field_keys
keys_of Message = field_keys
keys_of Group = field_keys
keys_of Field = field_keys
keys_of Other = field_keys
