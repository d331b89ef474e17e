-- Rules: Limits and refusals. The four numbers that a C function reports, and its output.
use Rattle.std.specs.Prelude.{◌≡◌, List, ℕ, length}
use Rattle.refusals.specs.Figures.{Answer}
use Rattle.refusals.specs.Reported.{Reports}
use Rattle.printing.specs.Output.{output_after}
use Rattle.xmlschema.specs.Whole.{Whole}
use Rattle.xmltoproto.specs.Convert.{converted, source_in}
use Rattle.names.specs.Entry.{Tested, answer_after}

-- what is reported of an answer, and the output out' that is made of out; `text` is the finished
-- text
pub record TextReports (answer : Answer) (text out out' : List ℕ) (number offset place n : ℕ) : Type 0 where
  pub figures : Reports answer number offset place n
  pub output : out' ≡ output_after answer text out

-- of a name conversion; t is what the tests of the name give, and `text` the converted name
abbrev pub NameReports : Tested → (text out out' : List ℕ) → (number offset place n : ℕ) → Type 0
NameReports t text out = TextReports (answer_after t text (length out)) text out

-- of the converter; `read` is what the document says
abbrev pub ConversionReports : Whole → (out out' : List ℕ) → (number offset place n : ℕ) → Type 0
ConversionReports read out = TextReports (converted read (length out)) (source_in read) out
