-- Rules: Limits and refusals. What the converter answers for a document, and what its output holds
-- afterwards.
--
-- The order is 1, 2, 10, then 11 to 35 as the document is read, 31 at its end, 40, 41, then 3.
use Rattle.std.specs.Prelude.{◌≡◌, List, [], ℕ, length, Err}
use Rattle.refusals.specs.Figures.{Answer}
use Rattle.printing.specs.Output.{output_after}
use Rattle.xmlschema.specs.Whole.{Whole, accepted, refused_by, answer_of}
use Rattle.xmltoproto.specs.Source.{source}
use Rattle.xmltoproto.specs.Generate.{generated}

-- the answer for what was read, with an output of `room` bytes
abbrev pub converted : Whole → ℕ → Answer
converted (accepted s) room = generated s room
converted (refused_by r) room = Err r

-- the source of what was read, none after a refusal
abbrev pub source_in : Whole → List ℕ
source_in (accepted s) = source s
source_in (refused_by r) = []

-- what the converter promises, for a document and buffers of these lengths: its answer r, and every
-- byte of the output
pub record Converts (document : List ℕ) (records text : ℕ) (out out' : List ℕ) (r : Answer) : Type 0 where
  pub is : r ≡ converted (answer_of document records text) (length out)
  pub output : out' ≡ output_after r (source_in (answer_of document records text)) out
