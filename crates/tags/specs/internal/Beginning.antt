-- How a tag begins: its raw name, of which some are usual.
use Rattle.std.specs.Prelude.{◌≡◌, true, List, [], ◌∷◌, ◌++◌, ℕ, ◌+◌, ◌-◌, T, length, take, drop, Option, Some, None}
use Rattle.texts.specs.Lists.{all}
use Rattle.texts.specs.Text.{ascii, piece, starts_with}
use Rattle.texts.specs.Scan.{scan, until}
use Rattle.classes.specs.Class.{is_tag_name_end}
use Rattle.swar.specs.internal.Standing.{ShortText, LongText}
use Rattle.elements.specs.Elements.{element_of}
use Rattle.elements.specs.declared.Element.{Element}
use Rattle.elements.specs.declared.Element.TheVariants.{MessageSchema, «Type», Ref, Composite, Enum, ValidValue, Message, Group, Field, Other}
use Rattle.tags.specs.declared.beginning.UsualName.{UsualName}
use Rattle.tags.specs.declared.beginning.Beginning.{Beginning}
use Rattle.tags.specs.Names.{prefix_length, local_name}

-- the local name of a usual raw name, by its element; "types" is the usual one that is Other
abbrev pub usual_name : Element → List ℕ
usual_name MessageSchema = ascii "messageSchema"
usual_name «Type» = ascii "type"
usual_name Ref = ascii "ref"
usual_name Composite = ascii "composite"
usual_name Enum = ascii "enum"
usual_name ValidValue = ascii "validValue"
usual_name Message = ascii "message"
usual_name Group = ascii "group"
usual_name Field = ascii "field"
usual_name Other = ascii "types"

-- with a prefix of that length: "sbe:", or none
abbrev pub usual_raw : Element → ℕ → List ℕ
usual_raw element prefix = take prefix (ascii "sbe:") ++ usual_name element

-- with the byte behind it: nearly always a space where a tag opens, '>' where one closes
abbrev pub tagged_text : ℕ → Element → ℕ → List ℕ
tagged_text behind element prefix = usual_raw element prefix ++ behind ∷ []

-- a usual raw name: nothing in it ends it; its length, that of its prefix, and its element
pub record Says (element : Element) (len prefix : ℕ) : Type 0 where
  pub plain : T (all (until is_tag_name_end) (usual_raw element prefix))
  pub long : len ≡ length (usual_raw element prefix)
  pub parted : prefix ≡ prefix_length (usual_raw element prefix)
  pub is : element ≡ element_of (local_name (usual_raw element prefix))

-- its raw name stands at `at`, with that byte behind it
pub record IsUsual (behind : ℕ) (doc : List ℕ) (at : ℕ) (k : UsualName) : Type 0 where
  pub stands : starts_with (tagged_text behind k.element k.prefix) (drop at doc) ≡ true
  pub says : Says k.element k.len k.prefix

-- none, or a usual beginning at `at`
abbrev pub UsualAt : ℕ → List ℕ → ℕ → Option UsualName → Type 0
UsualAt behind doc at None = Unit {0}
UsualAt behind doc at (Some k) = IsUsual behind doc at k

-- such a text of fewer than eight bytes, by its integers
pub record UsualShort (behind : ℕ) (element : Element) (len modulus front : ℕ) : Type 0 where
  pub says : Says element len 0
  pub text : ShortText (tagged_text behind element 0) modulus front

-- and one of 8 to 15 bytes
pub record UsualLong (behind : ℕ) (element : Element) (len prefix front modulus back : ℕ) : Type 0 where
  pub says : Says element len prefix
  pub text : LongText (tagged_text behind element prefix) front modulus back

-- the numbers of the two raw names with a prefix
pub record Prefixed (behind back : ℕ) (schema : List ℕ) : Type 0 where
  pub message : UsualLong behind Message 11 4 8319104456489001587 4294967296 back
  pub is : schema ≡ tagged_text behind MessageSchema 4

-- r is the beginning of the tag whose raw name is due at `name`
pub record BeginsAt (doc : List ℕ) (name : ℕ) (r : Beginning) : Type 0 where
  pub ends : r.end ≡ scan (until is_tag_name_end) doc name
  pub prefix : r.prefix ≡ prefix_length (piece doc name (r.end - name))
  pub element : r.element ≡ element_of (piece doc (name + r.prefix) (r.end - name - r.prefix))
