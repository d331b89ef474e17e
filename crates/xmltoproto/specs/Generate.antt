-- Rules: Limits and refusals. What the generator answers for a schema (40, 41, then 3), and what
-- its output holds afterwards.
use Rattle.std.specs.Prelude.{◌≡◌, List, ℕ, length, Option, None, Some, Err}
use Rattle.refusals.specs.Figures.{Answer}
use Rattle.refusals.specs.declared.Refusal.{Refusal}
use Rattle.printing.specs.Output.{finished, output_after}
use Rattle.model.specs.Schema.{Schema}
use Rattle.xmltoproto.specs.Source.{source}
use Rattle.xmltoproto.specs.Arrays.{array_refusal}

-- the answer after the array refusals, where the source is `text` and the output has `room` bytes
abbrev pub answer_after : Option Refusal → List ℕ → ℕ → Answer
answer_after (Some r) text room = Err r
answer_after None text room = finished text room

-- the answer for a schema, with an output of `room` bytes
unfoldable pub generated : Schema → ℕ → Answer
generated s room = answer_after (array_refusal s) (source s) room

-- what the generator promises: its answer r, and every byte of the output
pub record Generated (s : Schema) (out out' : List ℕ) (r : Answer) : Type 0 where
  pub is : r ≡ generated s (length out)
  pub output : out' ≡ output_after r (source s) out
