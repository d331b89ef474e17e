-- Rules: Printing. How a type prints, and what a field's type name stands for.
use Rattle.std.specs.Prelude.{Option, Some, None, is_some, Bool, not, List, [], ◌∷◌, ◌++◌, ℕ, ltb}
use Rattle.texts.specs.Choice.{pick, ◌or◌, ◌and◌}
use Rattle.texts.specs.Text.{ascii, same}
use Rattle.texts.specs.Lists.{among}
use Rattle.printing.specs.Decimal.{decimal}
use Rattle.escaping.specs.Escape.{quoted}
use Rattle.charsets.specs.Charset.{compatible}
use Rattle.model.specs.Schema.{Item, Schema, item_at, last_named, a_type, a_composite, an_enum}

-- the eleven type names that need no declaration (the scope's "built-ins")
abbrev pub built_ins : List (List ℕ)
built_ins =
    ascii "int8" ∷ ascii "int16" ∷ ascii "int32" ∷ ascii "int64" ∷ ascii "uint8" ∷ ascii "uint16" ∷ ascii "uint32" ∷ ascii "uint64"
    ∷ ascii "float" ∷ ascii "double" ∷ ascii "char" ∷ []

-- what a type or member says of its values
pub record Form : Type 0 where
  pub primitive : List ℕ
  -- its length, 0 if absent
  pub size : ℕ
  pub encoding : List ℕ

-- a form by its three parts
abbrev pub form : List ℕ → ℕ → List ℕ → Form
form primitive size encoding = record { primitive = primitive; size = size; encoding = encoding }

-- the form of a type or member
unfoldable pub form_of : Item → Form
form_of t = form t.second (pick t.given t.number 0) t.encoding

-- the form of a built-in
unfoldable pub built_in : List ℕ → Form
built_in name = form name 0 []

-- its primitive is char
unfoldable pub is_char : Form → Bool
is_char t = same t.primitive (ascii "char")

-- the length of a char: absent or 0 is 1
unfoldable pub chars : Form → ℕ
chars t = pick (ltb 0 t.size) t.size 1

-- its primitive is uint8 or int8
unfoldable pub is_byte : Form → Bool
is_byte t = among t.primitive (ascii "uint8" ∷ ascii "int8" ∷ [])

-- uint8 or int8 of a length above 1
unfoldable pub is_raw : Form → Bool
is_raw t = ltb 1 t.size and is_byte t

-- an array that no proto field represents (the scope's "array"): a length above 1 of any other
-- primitive but char
unfoldable pub is_array : Form → Bool
is_array t = ltb 1 t.size and not (is_char t or is_byte t)

-- ---- how it prints

-- the proto type, the option in brackets and the comment above the line; the last two may be empty
pub record Proto : Type 0 where
  pub word : List ℕ
  pub option : List ℕ
  pub note : List ℕ

-- a name as it stands
unfoldable pub as_named : List ℕ → Proto
as_named name = record { word = name; option = []; note = [] }

-- a proto type with its length as the option
unfoldable pub of_length : List ℕ → ℕ → List ℕ → Proto
of_length word n note = record { word = word; option = ascii "(sbe.length) = " ++ decimal n; note = note }

-- the comment that names an encoding
unfoldable pub note_on : List ℕ → List ℕ
note_on encoding = ascii "SBE characterEncoding " ++ quoted encoding ++ ascii " is not UTF-8 compatible, so this field is bytes."

-- an integer narrower than any of proto's: the proto type, with its own name as the option
unfoldable pub narrow : List ℕ → List ℕ → Proto
narrow word primitive = record { word = word; option = ascii "(sbe.encoding) = \"" ++ primitive ++ ascii "\""; note = [] }

-- a single primitive but char
unfoldable pub as_primitive : List ℕ → Proto
as_primitive p =
    pick (among p (ascii "int8" ∷ ascii "int16" ∷ [])) (narrow (ascii "int32") p)
    (pick (among p (ascii "uint8" ∷ ascii "uint16" ∷ [])) (narrow (ascii "uint32") p) (as_named p))

-- how a form prints: char as a string, or as bytes in an incompatible encoding; uint8 and int8 of a
-- length above 1 as bytes; otherwise as its primitive
unfoldable pub proto_of : Form → Proto
proto_of t =
    pick (is_char t)
    (pick (compatible t.encoding) (of_length (ascii "string") (chars t) []) (of_length (ascii "bytes") (chars t) (note_on t.encoding)))
    (pick (is_raw t) (of_length (ascii "bytes") t.size []) (as_primitive t.primitive))

-- ---- what a field's type name stands for

-- an enum or composite, a type, or nothing
pub data Meaning : Type 0 where
  -- an enum or a composite
  declared : Meaning
  -- a type of this form, or a built-in
  typed : Form → Meaning
  -- declared nowhere, and no built-in
  unknown : Meaning

-- an enum or a composite has this name
unfoldable pub is_declared : Schema → List ℕ → Bool
is_declared s name = is_some (last_named an_enum name s) or is_some (last_named a_composite name s)

-- the last type of this name, or else a built-in
abbrev pub type_or : Schema → List ℕ → Option ℕ → Meaning
type_or s name (Some i) = typed (form_of (item_at s i))
type_or s name None = pick (among name built_ins) (typed (built_in name)) unknown

-- the meaning of a type name: among enums, composites, types, built-ins, in this order
unfoldable pub meaning : Schema → List ℕ → Meaning
meaning s name = pick (is_declared s name) declared (type_or s name (last_named a_type name s))

-- how a field of this type name prints
abbrev pub proto_by : List ℕ → Meaning → Proto
proto_by name declared = as_named name
proto_by name (typed t) = proto_of t
proto_by name unknown = as_named name
