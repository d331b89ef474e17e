-- Rules: The program. What is printed for the bytes that were read.
use Rattle.std.specs.Prelude.{List, ℕ, ◌++◌, Ok, Err}
use Rattle.texts.specs.Text.{ascii}
use Rattle.refusals.specs.declared.Refusal.{Refusal}
use Rattle.refusals.specs.Figures.{Answer, number_of, offset_of, place_of}
use Rattle.printing.specs.Decimal.{decimal}
use Rattle.xmlschema.specs.Whole.{answer_of}
use Rattle.xmltoproto.specs.Convert.{converted, source_in}

-- `refused`, number, offset and place, separated by tabs, then a line feed
abbrev pub figures_line : ℕ → ℕ → ℕ → List ℕ
figures_line number offset place = ascii "refused\t" ++ decimal number ++ ascii "\t" ++ decimal offset ++ ascii "\t" ++ decimal place ++ ascii "\n"

-- the line of a refusal
abbrev pub refusal_line : Refusal → List ℕ
refusal_line r = figures_line (number_of r) (offset_of r) (place_of r)

-- what is printed after an answer, if the source is `text`
abbrev pub printed_after : Answer → List ℕ → List ℕ
printed_after (Ok n) text = text
printed_after (Err r) text = refusal_line r

-- what is printed for a document: the work buffers have 16,384 numbers and 65,536 bytes, and the
-- output has 65,536 bytes
unfoldable pub printed : List ℕ → List ℕ
printed document =
    let read = answer_of document 16384 65536 in
    printed_after (converted read 65536) (source_in read)
