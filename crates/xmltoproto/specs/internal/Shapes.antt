-- How a form prints, as the code answers it.
use Rattle.std.specs.Prelude.{◌≡◌, List, [], ◌++◌, ℕ}
use Rattle.texts.specs.Text.{ascii}
use Rattle.printing.specs.Decimal.{decimal}
use Rattle.xmltoproto.specs.Types.{Form, Proto, note_on, proto_of}
use Rattle.xmltoproto.specs.declared.types.Shape.{Shape}
use Rattle.xmltoproto.specs.declared.types.Shape.TheVariants as shape

-- ---- a shape over a primitive p and an encoding e

-- its proto type
abbrev pub word_in : Shape → List ℕ → List ℕ
word_in (shape.Text n) p = ascii "string"
word_in (shape.Foreign n) p = ascii "bytes"
word_in (shape.Raw n) p = ascii "bytes"
word_in shape.Signed p = ascii "int32"
word_in shape.Unsigned p = ascii "uint32"
word_in shape.Plain p = p

-- its option, without brackets
abbrev pub option_in : Shape → List ℕ → List ℕ
option_in (shape.Text n) p = ascii "(sbe.length) = " ++ decimal n
option_in (shape.Foreign n) p = ascii "(sbe.length) = " ++ decimal n
option_in (shape.Raw n) p = ascii "(sbe.length) = " ++ decimal n
option_in shape.Signed p = ascii "(sbe.encoding) = \"" ++ p ++ ascii "\""
option_in shape.Unsigned p = ascii "(sbe.encoding) = \"" ++ p ++ ascii "\""
option_in shape.Plain p = []

-- its comment
abbrev pub note_in : Shape → List ℕ → List ℕ
note_in (shape.Text n) e = []
note_in (shape.Foreign n) e = note_on e
note_in (shape.Raw n) e = []
note_in shape.Signed e = []
note_in shape.Unsigned e = []
note_in shape.Plain e = []

-- all three
abbrev pub proto_in : Shape → List ℕ → List ℕ → Proto
proto_in s p e = record { word = word_in s p; option = option_in s p; note = note_in s e }

-- the shape prints as the form does
abbrev pub Prints : Shape → Form → Type 0
Prints s t = proto_in s t.primitive t.encoding ≡ proto_of t

-- ---- an option with a space before it, in its brackets

-- that gives a length
unfoldable pub length_option : ℕ → List ℕ
length_option n = ascii " [(sbe.length) = " ++ decimal n ++ ascii "]"

-- that names a primitive
unfoldable pub encoding_option : List ℕ → List ℕ
encoding_option p = ascii " [(sbe.encoding) = \"" ++ p ++ ascii "\"]"
