-- Rules: Plain schemas and the wire sheet. Two plain, accepted, printed schemas have the same
-- source, byte for byte, exactly when their wire sheets are equal.
--
-- It is said of two calls of the converter, whatever the buffers held before, and of the bytes that
-- the calls left in the two outputs. What was lent for the calls stays lent.
use Rattle.std.specs.Prelude.{◌≡◌, ◌↔◌, List, ℕ, length, take, Ok, Err}
use Rattle.refusals.specs.Figures.{Answer}
use Rattle.model.specs.Schema.{Schema}
use Rattle.xmlschema.specs.Whole.{Whole, accepted, answer_of}
use Rattle.xmltoproto.specs.Convert.{Converts}
use Rattle.xmltoproto.specs.Source.{source}
use Rattle.wiresheet.specs.declared.Lent.{Lent}
use Rattle.wiresheet.specs.Plain.{Plain}
use Rattle.wiresheet.specs.Sheet.{sheet}

-- a call of the converter with what is lent: its answer, and its output before and after
abbrev pub Called : Lent → List ℕ → List ℕ → Answer → Type 0
Called a = Converts a.document.now (length a.records.now) (length a.text.now)

-- what is lent stays: the document is the same one, and each buffer is the same slice, as long as
-- it was, whatever it holds
pub record Kept (a a' : Lent) : Type 0 where
  pub document : a'.document ≡ a.document
  pub records : a'.records.ghost_name ≡ a.records.ghost_name
  pub records_length : length a'.records.now ≡ length a.records.now
  pub text : a'.text.ghost_name ≡ a.text.ghost_name
  pub text_length : length a'.text.now ≡ length a.text.now

-- what the document is read as: a schema, or a refusal
abbrev pub read_as : Lent → Whole
read_as a = answer_of a.document.now (length a.records.now) (length a.text.now)

-- the first n bytes of one output and the first m of the other are as many, and the same
abbrev pub SameBytes : ℕ → List ℕ → ℕ → List ℕ → Type 0
SameBytes n out m out' = (n ≡ m) × (take n out ≡ take m out')

-- both calls printed a source, and the same one; never where either refused
abbrev pub SameSource : Answer → List ℕ → Answer → List ℕ → Type 0
SameSource (Ok n) out (Ok m) out' = SameBytes n out m out'
SameSource (Ok n) out (Err r) out' = ⊥
SameSource (Err r) out b out' = ⊥

-- the document was read as the plain schema s, and the call printed n bytes of source
pub record PrintedPlain (read : Whole) (answer : Answer) (s : Schema) (n : ℕ) : Type 0 where
  pub is : read ≡ accepted s
  pub plain : Plain s
  pub printed : answer ≡ Ok n

-- with what is lent as `a` and `b` the calls answered `x` and `y` and left the two outputs: where
-- both schemas are plain and printed, the sources are the same exactly when the sheets are equal
abbrev pub Decides : Lent → Answer → List ℕ → Lent → Answer → List ℕ → Type 0
Decides a x out b y out' =
    (s t : Schema) (n m : ℕ) → PrintedPlain (read_as a) x s n → PrintedPlain (read_as b) y t m
    → SameBytes n out m out' ↔ (sheet s ≡ sheet t)

-- ---- of schemas alone

-- the source of a plain schema tells its sheet
abbrev pub SourceTells : Type 0
SourceTells = (s t : Schema) → Plain s → Plain t → source s ≡ source t → sheet s ≡ sheet t

-- and the sheet of any schema tells its source
abbrev pub SheetTells : Type 0
SheetTells = (s t : Schema) → sheet s ≡ sheet t → source s ≡ source t
