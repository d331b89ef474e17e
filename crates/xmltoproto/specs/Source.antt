-- Rules: Printing. The printed source: header, enums, composites, messages.
use Rattle.std.specs.Prelude.{List, [], ◌++◌, ℕ, ◌+◌, length}
use Rattle.texts.specs.Choice.{pick}
use Rattle.texts.specs.Text.{ascii}
use Rattle.texts.specs.Lists.{is_empty, each, numbered}
use Rattle.printing.specs.Decimal.{decimal}
use Rattle.names.specs.Conversions.{camel_to_snake, camel_to_screaming_snake, prefix_of, singular_pascal}
use Rattle.model.specs.Schema.{Item, Schema, item_at, all_of, under, a_member, a_ref, an_enum, a_value, a_message, a_group, a_field}
use Rattle.xmltoproto.specs.Composites.{printed_composites}
use Rattle.xmltoproto.specs.Types.{Proto, as_named, form_of, proto_of, proto_by, meaning}

-- the package line, only if the package is not empty
unfoldable pub package_line : List ℕ → List ℕ
package_line name = pick (is_empty name) [] (ascii "package " ++ name ++ ascii ";\n\n")

-- the header: package, schema id and version
unfoldable pub header : Schema → List ℕ
header s =
    ascii "syntax = \"proto3\";\n\n" ++ package_line s.package_name ++ ascii "import \"sbe/annotations.proto\";\n\noption (sbe.schema_id) = " ++ decimal s.id
    ++ ascii ";\noption (sbe.version) = " ++ decimal s.version ++ ascii ";\n\n"

-- ---- enums

-- a value, its name behind the prefix of its enum
unfoldable pub value_text : List ℕ → Item → List ℕ
value_text enum v = ascii "  " ++ prefix_of enum ++ camel_to_screaming_snake v.name ++ ascii " = " ++ v.second ++ ascii ";\n"

-- the enum at e
unfoldable pub enum_text : Schema → ℕ → List ℕ
enum_text s e =
    ascii "enum " ++ (item_at s e).name ++ ascii " {\n" ++ each (λ v. value_text (item_at s e).name (item_at s v)) (under a_value e s) ++ ascii "}\n\n"

-- ---- one line of a message

-- the comment above a line, if there is one
unfoldable pub note_line : List ℕ → List ℕ → List ℕ
note_line indent note = pick (is_empty note) [] (indent ++ ascii "// " ++ note ++ ascii "\n")

-- the option at the end of a line, if there is one
unfoldable pub bracketed : List ℕ → List ℕ
bracketed option = pick (is_empty option) [] (ascii " [" ++ option ++ ascii "]")

-- a line of the proto type p, with the comment above it
unfoldable pub line : List ℕ → Proto → List ℕ → ℕ → List ℕ
line indent p name number =
    note_line indent p.note ++ indent ++ p.word ++ ascii " " ++ name ++ ascii " = " ++ decimal number ++ bracketed p.option ++ ascii ";\n"

-- ---- composites

-- a member
unfoldable pub member_text : ℕ → Item → List ℕ
member_text number m = line (ascii "  ") (proto_of (form_of m)) (camel_to_snake m.name) number

-- a ref
unfoldable pub ref_text : ℕ → Item → List ℕ
ref_text number r = line (ascii "  ") (as_named r.second) (camel_to_snake r.name) number

-- members, then refs, numbered from 1
unfoldable pub part_texts : Schema → ℕ → List ℕ
part_texts s c =
    numbered (λ n m. member_text n (item_at s m)) 1 (under a_member c s)
    ++ numbered (λ n r. ref_text n (item_at s r)) (1 + length (under a_member c s)) (under a_ref c s)

-- the composite at c
unfoldable pub composite_text : Schema → ℕ → List ℕ
composite_text s c = ascii "message " ++ (item_at s c).name ++ ascii " {\n" ++ part_texts s c ++ ascii "}\n\n"

-- ---- messages

-- a field
unfoldable pub field_text : Schema → List ℕ → Item → List ℕ
field_text s indent f = line indent (proto_by f.second (meaning s f.second)) (camel_to_snake f.name) f.number

-- the group at g: a message named in the singular, and the field that repeats it
unfoldable pub group_text : Schema → ℕ → List ℕ
group_text s g =
    ascii "  message " ++ singular_pascal (item_at s g).name ++ ascii " {\n" ++ each (λ f. field_text s (ascii "    ") (item_at s f)) (under a_field g s)
    ++ ascii "  }\n  repeated " ++ singular_pascal (item_at s g).name ++ ascii " " ++ camel_to_snake (item_at s g).name ++ ascii " = " ++ decimal (item_at s g).number ++ ascii ";\n"

-- the message at m: its fields, then its groups
unfoldable pub message_text : Schema → ℕ → List ℕ
message_text s m =
    ascii "message " ++ (item_at s m).name ++ ascii " {\n  option (sbe.template_id) = " ++ decimal (item_at s m).number ++ ascii ";\n"
    ++ each (λ f. field_text s (ascii "  ") (item_at s f)) (under a_field m s) ++ each (group_text s) (under a_group m s) ++ ascii "}\n\n"

-- the source of a schema
unfoldable pub source : Schema → List ℕ
source s =
    header s ++ each (enum_text s) (all_of an_enum s) ++ each (composite_text s) (printed_composites s) ++ each (message_text s) (all_of a_message s)
