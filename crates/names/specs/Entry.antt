-- Rules: Limits and refusals. What an entry answers for a name: 1, 10 or 3, in this order, or the
-- length of the converted name.
use Rattle.std.specs.Prelude.{◌≡◌, Bool, List, ℕ, ltb, length, Result, Ok, Err}
use Rattle.texts.specs.Choice.{pick}
use Rattle.texts.specs.Scan.{scan, is_ascii}
use Rattle.refusals.specs.Figures.{Answer}
use Rattle.refusals.specs.declared.Refusal.{Refusal}
use Rattle.refusals.specs.declared.Refusal.TheVariants.{TooLong, NotAscii}
use Rattle.printing.specs.Output.{finished, output_after}

-- longer than 32,768 bytes
abbrev pub too_long : List ℕ → Bool
too_long name = ltb 32768 (length name)

-- the position of the first byte of 128 or more, or the name's length
abbrev pub ascii_end : List ℕ → ℕ
ascii_end name = scan is_ascii name 0

-- there is a byte of 128 or more
abbrev pub not_ascii : List ℕ → Bool
not_ascii name = ltb (ascii_end name) (length name)

-- what the tests of a name give: nothing, or a refusal
abbrev pub Tested : Type 0
Tested = Result (Unit {0}) Refusal

-- the tests of one name: 1, then 10
unfoldable pub tested : List ℕ → Tested
tested name = pick (too_long name) (Err TooLong) (pick (not_ascii name) (Err (NotAscii (ascii_end name))) (Ok tt))

-- the tests of two names: 1 of either, then 10 of either, the value's name first
unfoldable pub tested_two : List ℕ → List ℕ → Tested
tested_two value enum =
    pick (too_long value) (Err TooLong)
    (pick (too_long enum) (Err TooLong)
    (pick (not_ascii value) (Err (NotAscii (ascii_end value)))
    (pick (not_ascii enum) (Err (NotAscii (ascii_end enum))) (Ok tt))))

-- the answer, where `text` is the converted name and the output has `room` bytes: the refusal of
-- the tests, else 3 where the text is longer than that, else the text's length
unfoldable pub answer_after : Tested → List ℕ → ℕ → Answer
answer_after (Ok u) text room = finished text room
answer_after (Err r) text room = Err r

-- what an entry promises: its answer r, and every byte of the output that it leaves, out'
pub record Answers (t : Tested) (text out out' : List ℕ) (r : Answer) : Type 0 where
  pub is : r ≡ answer_after t text (length out)
  pub output : out' ≡ output_after r text out
