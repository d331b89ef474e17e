-- Rules: Limits and refusals. An entry's answer for a finished text, and its output afterwards.
use Rattle.std.specs.Prelude.{◌≡◌, List, ◌++◌, ℕ, ltb, length, drop, Ok, Err}
use Rattle.texts.specs.Choice.{pick}
use Rattle.refusals.specs.Figures.{Answer}
use Rattle.refusals.specs.declared.Refusal.TheVariants.{NoRoom}

-- the answer for an output of `room` bytes: 3 if that is too short, else the text's length
unfoldable pub finished : List ℕ → ℕ → Answer
finished text room = pick (ltb room (length text)) (Err NoRoom) (Ok (length text))

-- the output after an answer: the text, then the rest as it was; after a refusal all as it was
unfoldable pub output_after : Answer → List ℕ → List ℕ → List ℕ
output_after (Ok n) text out = text ++ drop n out
output_after (Err r) text out = out

-- r is the answer for the finished text, and the output holds what it does after that answer
pub record Finishes (text out out' : List ℕ) (r : Answer) : Type 0 where
  pub is : r ≡ finished text (length out)
  pub output : out' ≡ output_after r text out
