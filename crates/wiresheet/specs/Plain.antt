-- Rules: Plain schemas and the wire sheet. Plain schemas: those whose source determines their
-- sheet.
use Rattle.std.specs.Prelude.{Bool, true, false, not, List, [], ◌∷◌, ℕ, T, eqb}
use Rattle.texts.specs.Choice.{◌or◌, ◌and◌}
use Rattle.texts.specs.Text.{ascii}
use Rattle.texts.specs.Lists.{is_empty, all, Every, among}
use Rattle.classes.specs.Class.{is_upper, is_lower}
use Rattle.numbers.specs.Numbers.{is_digit}
use Rattle.model.specs.Schema.{Item, Schema, item_at, all_of, under, a_member, a_ref, a_composite, an_enum, a_value, a_message, a_group, a_field}
use Rattle.xmltoproto.specs.Types.{Meaning, declared, typed, unknown, built_ins, is_declared, meaning}
use Rattle.xmltoproto.specs.Composites.{printed_composites}

-- ---- texts

-- an ASCII letter
unfoldable pub is_letter : ℕ → Bool
is_letter b = is_upper b or is_lower b

-- a letter, a digit or '_'
unfoldable pub is_name_byte : ℕ → Bool
is_name_byte b = is_letter b or is_digit b or eqb b 95

-- a letter, then letters, digits, '_' (the scope's "identifier")
unfoldable pub is_identifier : List ℕ → Bool
is_identifier [] = false
is_identifier (b ∷ s) = is_letter b and all is_name_byte s

-- identifiers joined by dots; the first argument says whether one is about to begin
unfoldable pub is_dotted : Bool → List ℕ → Bool
is_dotted true [] = false
is_dotted true (b ∷ s) = is_letter b and is_dotted false s
is_dotted false [] = true
is_dotted false (b ∷ s) = is_name_byte b and is_dotted false s or eqb b 46 and is_dotted true s

-- empty, or identifiers joined by dots
unfoldable pub is_package : List ℕ → Bool
is_package s = is_empty s or is_dotted true s

-- one or more digits
unfoldable pub is_digits : List ℕ → Bool
is_digits s = not (is_empty s) and all is_digit s

-- one or more digits, perhaps after '-'
unfoldable pub is_integer : List ℕ → Bool
is_integer [] = false
is_integer (b ∷ s) = is_digits (b ∷ s) or eqb b 45 and is_digits s

-- names that no enum or composite may have
abbrev pub reserved : List (List ℕ)
reserved = ascii "string" ∷ ascii "bytes" ∷ ascii "option" ∷ ascii "message" ∷ ascii "repeated" ∷ ascii "enum" ∷ built_ins

-- ---- items

-- its name is an identifier
abbrev pub Named : Item → Type 0
Named it = T (is_identifier it.name)

-- its name is not reserved
abbrev pub Unreserved : Item → Type 0
Unreserved it = T (not (among it.name reserved))

-- a value: an integer under an identifier
pub record PlainValue (v : Item) : Type 0 where
  pub name : Named v
  pub value : T (is_integer v.second)

-- an enum
pub record PlainEnum (s : Schema) (e : ℕ) : Type 0 where
  pub name : Named (item_at s e)
  pub free : Unreserved (item_at s e)
  pub values : Every (λ v. PlainValue (item_at s v)) (under a_value e s)

-- a member: of a built-in primitive
pub record PlainMember (m : Item) : Type 0 where
  pub name : Named m
  pub primitive : T (among m.second built_ins)

-- a ref: to an enum or composite
pub record PlainRef (s : Schema) (r : Item) : Type 0 where
  pub name : Named r
  pub type : T (is_declared s r.second)

-- a printed composite
pub record PlainComposite (s : Schema) (c : ℕ) : Type 0 where
  pub name : Named (item_at s c)
  pub members : Every (λ m. PlainMember (item_at s m)) (under a_member c s)
  pub refs : Every (λ r. PlainRef s (item_at s r)) (under a_ref c s)

-- the type name is found, and a type that it names is of a built-in primitive
abbrev pub Resolves : Meaning → Type 0
Resolves declared = Unit {0}
Resolves (typed t) = T (among t.primitive built_ins)
Resolves unknown = ⊥

-- a field: its type name is found
pub record PlainField (s : Schema) (f : Item) : Type 0 where
  pub name : Named f
  pub type : Resolves (meaning s f.second)

-- a group
pub record PlainGroup (s : Schema) (g : ℕ) : Type 0 where
  pub name : Named (item_at s g)
  pub fields : Every (λ f. PlainField s (item_at s f)) (under a_field g s)

-- a message
pub record PlainMessage (s : Schema) (m : ℕ) : Type 0 where
  pub name : Named (item_at s m)
  pub fields : Every (λ f. PlainField s (item_at s f)) (under a_field m s)
  pub groups : Every (PlainGroup s) (under a_group m s)

-- a plain schema (the scope's "plain"); a composite must not have a reserved name even if it is not
-- printed
pub record Plain (s : Schema) : Type 0 where
  pub package_name : T (is_package s.package_name)
  pub enums : Every (PlainEnum s) (all_of an_enum s)
  pub free : Every (λ c. Unreserved (item_at s c)) (all_of a_composite s)
  pub composites : Every (PlainComposite s) (printed_composites s)
  pub messages : Every (PlainMessage s) (all_of a_message s)
