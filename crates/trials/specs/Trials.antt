-- Rules: Trials. The worked examples that are proved (the scope's starred trials): what the
-- definitions say of each name, number and document.
use Prim.Native.String.{String}
use Rattle.std.specs.Prelude.{◌≡◌, [], ℕ, ◌≤◌, None, Some}
use Rattle.texts.specs.Text.{ascii}
use Rattle.refusals.specs.Figures.{Answer, number_in, offset_in, place_in, written_in}
use Rattle.names.specs.Conversions.{camel_to_snake, camel_to_screaming_snake, singular_pascal}
use Rattle.numbers.specs.Numbers.{number_of}
use Rattle.model.specs.Schema.{Schema}
use Rattle.xmlschema.specs.Whole.{accepted, answer_of}
use Rattle.xmltoproto.specs.Convert.{converted}

-- the answer, as four numbers
pub record Figures (answer : Answer) (number offset place n : ℕ) : Type 0 where
  pub the_number : number_in answer ≡ number
  pub the_offset : offset_in answer ≡ offset
  pub the_place : place_in answer ≡ place
  pub the_n : written_in answer ≡ n

-- what the converter answers for a document, with work buffers of these lengths and an output of
-- `room` bytes
abbrev pub answer : String → ℕ → ℕ → ℕ → Answer
answer document records text room = converted (answer_of (ascii document) records text) room

-- the document is accepted and its source has n bytes, where the work buffers and the output are
-- long enough
pub record Accepted (document : String) (n : ℕ) : Type 0 where
  pub is : (records text room : ℕ) → 16384 ≤ records → 65536 ≤ text → n ≤ room → Figures (answer document records text room) 0 0 0 n

-- the document is refused by this number, with this offset and place, where the work buffers are
-- long enough, whatever room the output has
pub record Refused (document : String) (number offset place : ℕ) : Type 0 where
  pub is : (records text room : ℕ) → 16384 ≤ records → 65536 ≤ text → Figures (answer document records text room) number offset place 0

-- the document is read into this schema, where the work buffers are long enough
pub record Read (document : String) (schema : Schema) : Type 0 where
  pub is : (records text : ℕ) → 16384 ≤ records → 65536 ≤ text → answer_of (ascii document) records text ≡ accepted schema

-- the trials, in the scope's order
pub record Trials : Type 0 where
  -- snake: MDEntryPx md_entry_px; orderID order_id; leg2ID leg2id
  pub snake_entry : camel_to_snake (ascii "MDEntryPx") ≡ ascii "md_entry_px"
  pub snake_order : camel_to_snake (ascii "orderID") ≡ ascii "order_id"
  pub snake_leg : camel_to_snake (ascii "leg2ID") ≡ ascii "leg2id"
  -- screaming: MDEntryPx MDENTRY_PX
  pub screaming_entry : camel_to_screaming_snake (ascii "MDEntryPx") ≡ ascii "MDENTRY_PX"
  -- singular: entries Entry; s S
  pub singular_entries : singular_pascal (ascii "entries") ≡ ascii "Entry"
  pub singular_s : singular_pascal (ascii "s") ≡ ascii "S"
  -- numbers: absent 0; +7 is 7, and both in a document; 4294967296 is 32
  pub number_absent : number_of None ≡ Some 0
  pub number_plus : number_of (Some (ascii "+7")) ≡ Some 7
  pub number_read : Read "<messageSchema id=\"+7\"/>" (record { package_name = []; id = 7; version = 0; items = [] })
  pub number_large : Refused "<messageSchema><message id=\"4294967296\"/></messageSchema>" 32 0 15
  -- `</>` accepted; `<!-->` 11 at 0
  pub close_of_nothing : Accepted "</>" 108
  pub open_comment : Refused "<!-->" 11 0 0
  -- uint16 of length 2: unused, or in messageHeader, accepted; in the printed composite 0, 40
  pub array_unused : Accepted "<type name=\"pair\" primitiveType=\"uint16\" length=\"2\"/>" 108
  pub array_in_header :
      Accepted "<composite name=\"messageHeader\"><type name=\"pair\" primitiveType=\"uint16\" length=\"2\"/></composite>" 108
  pub array_in_composite :
      Refused "<composite name=\"Price\"><type name=\"pair\" primitiveType=\"uint16\" length=\"2\"/></composite>" 40 0 0
