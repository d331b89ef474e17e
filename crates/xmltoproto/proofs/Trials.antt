-- Examples: arrays, a small schema's source, the empty document's length, a line of each kind.
use Rattle.std.proofs.Common.{◌≡◌, refl, true, false, List, [], ◌∷◌, None, Some, ℕ, length}
use Rattle.texts.specs.Text.{ascii, same, starts_with}
use Rattle.texts.specs.Trim.{is_blank, trimmed_front, trimmed_back, trimmed}
use Rattle.texts.specs.Lists.{each, numbered, any, among}
use Rattle.classes.specs.Class.{is_upper, is_lower}
use Rattle.printing.specs.Decimal.{decimal, digits}
use Rattle.printing.specs.Repeated.{up_to}
use Rattle.classes.specs.Letters.{lowered, raised}
use Rattle.names.specs.Conversions.{camel_to_snake, cased, breaks_snake, camel_to_screaming_snake, cased_at, breaks_screaming, prefix_of, ends_in_ies, ends_in_s, singular, capitalized, singular_pascal}
use Rattle.refusals.specs.declared.Refusal.TheVariants.{ArrayInComposite, ArrayInMessage}
use Rattle.escaping.specs.Escape.{hex, escaped, quoted}
use Rattle.charsets.specs.Charset.{is_punctuation, cleaned, compatible}
use Rattle.model.specs.Schema.{Item, Schema, positions_from, all_of, under, last, last_named, a_type, a_member, a_ref, a_composite, an_enum, a_value, a_message, a_group, a_field}
use Rattle.xmltoproto.specs.Types.{form_of, built_in, is_char, chars, is_byte, is_raw, is_array, as_named, of_length, note_on, narrow, as_primitive, proto_of, is_declared, meaning}
use Rattle.xmltoproto.specs.Composites.{is_printed, printed_composites}
use Rattle.xmltoproto.specs.Source.{package_line, header, value_text, enum_text, note_line, bracketed, line, member_text, ref_text, part_texts, composite_text, field_text, group_text, message_text, source}
use Rattle.xmltoproto.specs.Arrays.{first_from, refused_composite, holds_array, refused_message, array_refusal}

abbrev item : ℕ → ℕ → List ℕ → List ℕ → ℕ → Item
item kind owner name second number = record { kind = kind; owner = owner; name = name; second = second; number = number; given = false; encoding = [] }

-- a type or member of a length
abbrev sized : ℕ → ℕ → List ℕ → List ℕ → ℕ → List ℕ → Item
sized kind owner name primitive n encoding =
    record { kind = kind; owner = owner; name = name; second = primitive; number = n; given = true; encoding = encoding }

abbrev schema : List Item → Schema
schema items = record { package_name = []; id = 0; version = 0; items = items }

-- uint16 of length 2
abbrev pair : ℕ → ℕ → Item
pair kind owner = sized kind owner (ascii "pair") (ascii "uint16") 2 []

abbrev composite : List ℕ → Item
composite name = item a_composite 0 name [] 0

abbrev field : ℕ → List ℕ → List ℕ → ℕ → Item
field owner name type id = item a_field owner name type id

-- ---- arrays

pub arrays
    : (array_refusal (schema (pair a_type 0 ∷ [])) ≡ None)
    × (array_refusal (schema (composite (ascii "messageHeader") ∷ pair a_member 0 ∷ [])) ≡ None)
    × (array_refusal (schema (composite (ascii "box") ∷ pair a_member 0 ∷ [])) ≡ Some (ArrayInComposite 0))
    × (array_refusal (schema (composite (ascii "messageHeader") ∷ pair a_member 0 ∷ composite (ascii "box") ∷ pair a_member 2 ∷ [])) ≡ Some (ArrayInComposite 1))
    × (array_refusal (schema (pair a_type 0 ∷ item a_message 0 (ascii "A") [] 1 ∷ item a_message 0 (ascii "B") [] 2 ∷ item a_group 2 (ascii "gs") [] 3 ∷ field 3 (ascii "x") (ascii "pair") 4 ∷ [])) ≡ Some (ArrayInMessage 1))
    × (array_refusal (schema (pair a_type 0 ∷ item an_enum 0 (ascii "pair") [] 0 ∷ item a_message 0 (ascii "A") [] 1 ∷ field 2 (ascii "x") (ascii "pair") 4 ∷ [])) ≡ None)
unfolding array_refusal first_from refused_composite holds_array refused_message is_printed any is_array is_char is_byte form_of built_in meaning is_declared last_named last positions_from all_of under same among
arrays = (refl, refl, refl, refl, refl, refl)

-- ---- the worked example

abbrev hit : Schema
hit =
    record {
      package_name = [];
      id = 7;
      version = 0;
      items = item a_message 0 (ascii "Hit") [] 3 ∷ item a_group 0 (ascii "legs") [] 5 ∷ field 1 (ascii "legId") (ascii "uint16") 6 ∷ [];
    }

-- ---- an enum, a type that shadows a built-in, an unprinted composite, a member of each kind

abbrev pub full : Schema
full =
    record {
      package_name = ascii "a.b1";
      id = 1;
      version = 2;
      items =
          item an_enum 0 (ascii "Side") (ascii "char") 0
          ∷ item a_value 0 (ascii "buyNow") (ascii "-1") 0
          ∷ composite (ascii "messageHeader")
          ∷ sized a_member 2 (ascii "not a name") (ascii "odd") 2 []
          ∷ composite (ascii "Box")
          ∷ item a_ref 4 (ascii "whichSide") (ascii "Side") 0
          ∷ sized a_member 4 (ascii "tag") (ascii "char") 5 (ascii " Utf-8")
          ∷ sized a_member 4 (ascii "old") (ascii "char") 0 (ascii "Latin\"1\n")
          ∷ sized a_member 4 (ascii "blob") (ascii "int8") 3 []
          ∷ sized a_type 0 (ascii "float") (ascii "char") 9 []
          ∷ sized a_type 0 (ascii "float") (ascii "uint64") 1 []
          ∷ item a_message 0 (ascii "Hit") [] 3
          ∷ field 11 (ascii "box") (ascii "Box") 4
          ∷ field 11 (ascii "f") (ascii "float") 5
          ∷ [];
    }

-- ---- the worked example's source, the empty document's, and the other's

pub printed
    : (source hit ≡ ascii "syntax = \"proto3\";\n\nimport \"sbe/annotations.proto\";\n\noption (sbe.schema_id) = 7;\noption (sbe.version) = 0;\n\nmessage Hit {\n  option (sbe.template_id) = 3;\n  message Leg {\n    uint32 leg_id = 6 [(sbe.encoding) = \"uint16\"];\n  }\n  repeated Leg legs = 5;\n}\n\n")
    × (length (source (schema [])) ≡ 108)
    × (array_refusal full ≡ None)
    × (source full ≡ ascii "syntax = \"proto3\";\n\npackage a.b1;\n\nimport \"sbe/annotations.proto\";\n\noption (sbe.schema_id) = 1;\noption (sbe.version) = 2;\n\nenum Side {\n  SIDE_BUY_NOW = -1;\n}\n\nmessage Box {\n  string tag = 1 [(sbe.length) = 5];\n  // SBE characterEncoding \"Latin\\\"1\\n\" is not UTF-8 compatible, so this field is bytes.\n  bytes old = 2 [(sbe.length) = 1];\n  bytes blob = 3 [(sbe.length) = 3];\n  Side which_side = 4;\n}\n\nmessage Hit {\n  option (sbe.template_id) = 3;\n  Box box = 4;\n  uint64 f = 5;\n}\n\n")
unfolding source header package_line enum_text value_text note_line bracketed line is_printed printed_composites member_text ref_text part_texts composite_text field_text group_text message_text each numbered is_char is_byte is_raw chars form_of built_in as_named of_length note_on narrow as_primitive proto_of meaning is_declared last_named last positions_from all_of under same among decimal digits camel_to_snake cased breaks_snake camel_to_screaming_snake cased_at breaks_screaming prefix_of ends_in_ies ends_in_s singular capitalized singular_pascal starts_with lowered raised is_upper is_lower up_to is_blank trimmed_front trimmed_back trimmed is_punctuation cleaned compatible hex escaped quoted array_refusal first_from refused_composite holds_array refused_message any is_array
printed = (refl, refl, refl, refl)
