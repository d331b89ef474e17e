-- Writing to an `Output`: vocabulary for Rules: Printing.
use Rattle.std.specs.Prelude.{◌≡◌, List, ℕ}
use Rattle.std.specs.Borrow.{MutBor}
use Rattle.printing.specs.Printed.{past, skipped, laid}
use Rattle.printing.specs.declared.Output.{Output}

-- the output after a text: its slice with the text laid over it, and the position after it
unfoldable pub written : Output → List ℕ → Output
written o text = record { bytes = record o.bytes { now = laid o.bytes.now o.at text }; at = past o.at text }

-- `text` was written: the output `o` became `o'`
pub record Wrote (o o' : Output) (text : List ℕ) : Type 0 where
  pub is : o' ≡ written o text

-- an output at the first byte of a slice
abbrev pub opened : MutBor (List ℕ) → Output
opened bytes = record { bytes = bytes; at = 0 }

-- the output moved n bytes on, with nothing written
abbrev pub moved : Output → ℕ → Output
moved o n = record { bytes = o.bytes; at = skipped o.at n }
