-- The source depends on the sheet alone: it is the sheet's own rendering.
use Rattle.std.proofs.Common.{◌≡◌, refl, ap, List, [], ◌∷◌, ◌++◌, map, append_assoc, ℕ, ◌+◌, suc, add-zero, arith, length}
use lib.ListN.{length-map}
use Rattle.texts.specs.Text.{ascii}
use Rattle.texts.specs.Lists.{each, numbered}
use Rattle.texts.proofs.Choosing.{by-test}
use Rattle.printing.specs.Decimal.{decimal}
use Rattle.names.specs.Conversions.{prefix_of}
use Rattle.charsets.specs.Charset.{compatible}
use Rattle.model.specs.Schema.{Item, Schema, item_at, all_of, under, a_member, a_ref, an_enum, a_value, a_message, a_group, a_field}
use Rattle.xmltoproto.specs.Types.{Form, form_of, is_char, is_raw, Proto, as_named, of_length, note_on, as_primitive, proto_of, Meaning, declared, typed, unknown, meaning, proto_by}
use Rattle.xmltoproto.specs.Composites.{printed_composites}
use Rattle.xmltoproto.specs.Source.{package_line, header, value_text, enum_text, line, member_text, ref_text, part_texts, composite_text, field_text, group_text, message_text, source}
use Rattle.wiresheet.specs.Sheet.{Kind, single, text, text_in, raw, named, Value, Enum, Part, Composite, Field, Group, Message, Sheet, kind_of, kind_by, value_of, enum_of, member_of, ref_of, composite_of, field_of, group_of, message_of, sheet}
use Rattle.wiresheet.proofs.Splitting.{◌▹◌}

-- ---- the rendering

abbrev pub as_kind : Kind → Proto
as_kind (single p) = as_primitive p
as_kind (text n) = of_length (ascii "string") n []
as_kind (text_in n e) = of_length (ascii "bytes") n (note_on e)
as_kind (raw n) = of_length (ascii "bytes") n []
as_kind (named n) = as_named n

abbrev pub value_line : List ℕ → Value → List ℕ
value_line enum v = ascii "  " ▹ prefix_of enum ▹ v.name ▹ ascii " = " ▹ v.value ▹ ascii ";\n"

abbrev pub enum_block : Enum → List ℕ
enum_block e = ascii "enum " ▹ e.name ▹ ascii " {\n" ▹ each (value_line e.name) e.values ▹ ascii "}\n\n"

abbrev pub part_line : ℕ → Part → List ℕ
part_line n p = line (ascii "  ") (as_kind p.kind) p.name n

abbrev pub composite_block : Composite → List ℕ
composite_block c = ascii "message " ▹ c.name ▹ ascii " {\n" ▹ numbered part_line 1 c.parts ▹ ascii "}\n\n"

abbrev pub field_line : List ℕ → Field → List ℕ
field_line indent f = line indent (as_kind f.kind) f.name f.id

abbrev pub group_block : Group → List ℕ
group_block g =
    ascii "  message " ▹ g.singular ▹ ascii " {\n" ▹ each (field_line (ascii "    ")) g.fields ▹ ascii "  }\n  repeated "
    ▹ g.singular ▹ ascii " " ▹ g.name ▹ ascii " = " ▹ decimal g.id ▹ ascii ";\n"

abbrev pub message_block : Message → List ℕ
message_block m =
    ascii "message " ▹ m.name ▹ ascii " {\n  option (sbe.template_id) = " ▹ decimal m.id ▹ ascii ";\n"
    ▹ each (field_line (ascii "  ")) m.fields ▹ each group_block m.groups ▹ ascii "}\n\n"

abbrev pub render : Sheet → List ℕ
render s =
    ascii "syntax = \"proto3\";\n\n" ▹ package_line s.package_name ▹ ascii "import \"sbe/annotations.proto\";\n\noption (sbe.schema_id) = " ▹ decimal s.id
    ▹ ascii ";\noption (sbe.version) = " ▹ decimal s.version ▹ ascii ";\n\n"
    ▹ each enum_block s.enums ▹ each composite_block s.composites ▹ each message_block s.messages

-- ---- lists

pub each_map : {A B : Type 0} (f : A → List ℕ) (g : B → List ℕ) (h : A → B) → ((a : A) → f a ≡ g (h a)) → (l : List A) → each f l ≡ each g (map h l)
unfolding each
each_map f g h e [] = refl
each_map f g h e (a ∷ l) = rw (e a, each_map f g h e l)

numbered-map : {A B : Type 0} (f : ℕ → A → List ℕ) (g : ℕ → B → List ℕ) (h : A → B) → ((n : ℕ) (a : A) → f n a ≡ g n (h a)) → (n : ℕ) (l : List A) → numbered f n l ≡ numbered g n (map h l)
unfolding numbered
numbered-map f g h e n [] = refl
numbered-map f g h e n (a ∷ l) = rw (e n a, numbered-map f g h e (n + 1) l)

pub numbered-append : {A : Type 0} (g : ℕ → A → List ℕ) (n : ℕ) (s t : List A) → numbered g n (s ++ t) ≡ numbered g n s ++ numbered g (n + length s) t
unfolding numbered
numbered-append g n [] t = rw add-zero
numbered-append g n (a ∷ s) t =
    let q : n + 1 + length s ≡ n + suc (length s) = omega arith in
    rw (numbered-append g (n + 1) s t, append_assoc, q)

-- ---- kinds

proto-kind : (t : Form) → proto_of t ≡ as_kind (kind_of t)
unfolding proto_of kind_of
proto-kind t =
    by-test (is_char t)
    (λ c. by-test (compatible t.encoding) (λ u. rw (c, u)) (λ u. rw (c, u)))
    (λ c. by-test (is_raw t) (λ u. rw (c, u)) (λ u. rw (c, u)))

proto-kind-by : (name : List ℕ) (m : Meaning) → proto_by name m ≡ as_kind (kind_by name m)
proto-kind-by name declared = refl
proto-kind-by name (typed t) = proto-kind t
proto-kind-by name unknown = refl

-- ---- parts

value-renders : (enum : List ℕ) (v : Item) → value_text enum v ≡ value_line enum (value_of v)
unfolding value_text value_of
value-renders enum v = simp append_assoc

enum-renders : (s : Schema) (e : ℕ) → enum_text s e ≡ enum_block (enum_of s e)
unfolding enum_text enum_of
enum-renders s e =
    simp append_assoc
    (ap (λ l. ascii "enum " ▹ (item_at s e).name ▹ ascii " {\n" ▹ l ▹ ascii "}\n\n")
    (each_map (λ v. value_text (item_at s e).name (item_at s v)) (value_line (item_at s e).name) (λ v. value_of (item_at s v)) (λ v. value-renders (item_at s e).name (item_at s v)) (under a_value e s)))

member-renders : (n : ℕ) (m : Item) → member_text n m ≡ part_line n (member_of m)
unfolding member_text member_of
member-renders n m = rw (proto-kind (form_of m))

ref-renders : (n : ℕ) (r : Item) → ref_text n r ≡ part_line n (ref_of r)
unfolding ref_text ref_of
ref-renders n r = refl

parts-render : (s : Schema) (c : ℕ) → part_texts s c ≡ numbered part_line 1 (composite_of s c).parts
unfolding part_texts composite_of
parts-render s c =
    let ms = under a_member c s in
    let rs = under a_ref c s in
    let member : ℕ → Part = λ m. member_of (item_at s m) in
    let ref : ℕ → Part = λ r. ref_of (item_at s r) in
    rw (numbered-append part_line 1 (map member ms) (map ref rs), length-map ms member, numbered-map (λ n m. member_text n (item_at s m)) part_line member (λ n m. member-renders n (item_at s m)) 1 ms, numbered-map (λ n r. ref_text n (item_at s r)) part_line ref (λ n r. ref-renders n (item_at s r)) (1 + length ms) rs)

composite-renders : (s : Schema) (c : ℕ) → composite_text s c ≡ composite_block (composite_of s c)
unfolding composite_text composite_of
composite-renders s c = simp append_assoc (rw (parts-render s c))

field-renders : (s : Schema) (indent : List ℕ) (f : Item) → field_text s indent f ≡ field_line indent (field_of s f)
unfolding field_text field_of
field-renders s indent f = rw (proto-kind-by f.second (meaning s f.second))

fields-render : (s : Schema) (indent : List ℕ) (l : List ℕ) → each (λ f. field_text s indent (item_at s f)) l ≡ each (field_line indent) (map (λ f. field_of s (item_at s f)) l)
fields-render s indent l = each_map (λ f. field_text s indent (item_at s f)) (field_line indent) (λ f. field_of s (item_at s f)) (λ f. field-renders s indent (item_at s f)) l

group-renders : (s : Schema) (g : ℕ) → group_text s g ≡ group_block (group_of s g)
unfolding group_text group_of
group-renders s g = simp append_assoc (rw (fields-render s (ascii "    ") (under a_field g s)))

message-renders : (s : Schema) (m : ℕ) → message_text s m ≡ message_block (message_of s m)
unfolding message_text message_of
message-renders s m =
    simp append_assoc (rw (fields-render s (ascii "  ") (under a_field m s), each_map (group_text s) group_block (group_of s) (group-renders s) (under a_group m s)))

pub renders : (s : Schema) → source s ≡ render (sheet s)
unfolding source header sheet
renders s =
    simp append_assoc (rw (each_map (enum_text s) enum_block (enum_of s) (enum-renders s) (all_of an_enum s), each_map (composite_text s) composite_block (composite_of s) (composite-renders s) (printed_composites s), each_map (message_text s) message_block (message_of s) (message-renders s) (all_of a_message s)))
