-- Parts of the source, as the code prints them.
use Rattle.std.specs.Prelude.{◌≡◌, Bool, List, ◌++◌, ℕ, ◌+◌, length}
use Rattle.texts.specs.Choice.{pick}
use Rattle.texts.specs.Text.{ascii}
use Rattle.texts.specs.Lists.{among, each, numbered}
use Rattle.printing.specs.Decimal.{decimal}
use Rattle.printing.specs.Printed.{past}
use Rattle.printing.specs.declared.Output.{Output}
use Rattle.printing.specs.internal.Standing.{Standing}
use Rattle.names.specs.Conversions.{camel_to_snake, prefix_of, singular_pascal}
use Rattle.model.specs.Schema.{Item, Schema, item_at, under, a_member, a_ref, a_value, a_field}
use Rattle.xmltoproto.specs.Types.{form_of, built_ins, built_in, as_named, proto_of}
use Rattle.xmltoproto.specs.Source.{value_text, line, member_text, ref_text, field_text}
use Rattle.xmltoproto.specs.internal.Shapes.{word_in, proto_in}
use Rattle.xmltoproto.specs.declared.types.Shape.{Shape}

-- ---- enums

-- the prefix of the enum's values has `width` bytes; it stands in the output at `stood`, or that is
-- past the end
abbrev pub Prefixed : List ℕ → ℕ → ℕ → Output → Type 0
Prefixed enum width stood o = (width ≡ past 0 (prefix_of enum)) × Standing (prefix_of enum) o.bytes.now stood o.at

-- the values of the enum at e, which has this name
abbrev pub value_texts : Schema → List ℕ → ℕ → List ℕ
value_texts s enum e = each (λ v. value_text enum (item_at s v)) (under a_value e s)

-- ---- a line, with a name as it stands in the document

-- its indent: in a group, or in a message
abbrev pub indent_of : Bool → List ℕ
indent_of in_group = pick in_group (ascii "    ") (ascii "  ")

-- from the indent to the number, in a shape over a primitive p
abbrev pub line_middle : Bool → Shape → List ℕ → List ℕ → ℕ → List ℕ
line_middle in_group shape p name number = indent_of in_group ++ word_in shape p ++ ascii " " ++ camel_to_snake name ++ (ascii " = " ++ decimal number)

-- in a shape over a primitive p and an encoding e
abbrev pub shaped : Bool → Shape → List ℕ → List ℕ → List ℕ → ℕ → List ℕ
shaped in_group shape p e name number = line (indent_of in_group) (proto_in shape p e) (camel_to_snake name) number

-- of the type or member t
abbrev pub formed : Bool → Item → List ℕ → ℕ → List ℕ
formed in_group t name number = line (indent_of in_group) (proto_of (form_of t)) (camel_to_snake name) number

-- of a type name that is declared nowhere: a built-in, or one that is printed as it stands
abbrev pub undeclared : Bool → List ℕ → List ℕ → ℕ → List ℕ
undeclared in_group type_name name number =
    line (indent_of in_group) (pick (among type_name built_ins) (proto_of (built_in type_name)) (as_named type_name)) (camel_to_snake name) number

-- ---- composites

-- composite c has n members
pub record Members (s : Schema) (c n : ℕ) : Type 0 where
  pub are : n ≡ length (under a_member c s)

-- the members of composite c, numbered from 1
abbrev pub member_texts : Schema → ℕ → List ℕ
member_texts s c = numbered (λ n i. member_text n (item_at s i)) 1 (under a_member c s)

-- its refs, numbered behind n members
abbrev pub ref_texts : Schema → ℕ → ℕ → List ℕ
ref_texts s c n = numbered (λ n i. ref_text n (item_at s i)) (n + 1) (under a_ref c s)

-- ---- messages

-- a group's message as far as its last field
unfoldable pub group_head : Schema → ℕ → List ℕ
group_head s g =
    ascii "  message " ++ singular_pascal (item_at s g).name ++ ascii " {\n" ++ each (λ f. field_text s (ascii "    ") (item_at s f)) (under a_field g s)
