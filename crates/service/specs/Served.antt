-- Rules: The program. What is read and written. The bytes of input and output are `Some` where the
-- types of reader and writer tell them, and `None` where nothing is known, as of the system's.
use Rattle.std.specs.Prelude.{List, ℕ, ◌≤◌, ◌<◌, Option, length, take}
use Rattle.std.specs.Io.KnownBytes.{Appends}
use Rattle.inputs.specs.Input.{Taken}
use Rattle.service.specs.Printed.{printed}

-- the input's next 32,769 bytes, or all if there were fewer, are the document, and what is printed
-- for it was written
abbrev pub Served : Option (List ℕ) → Option (List ℕ) → Option (List ℕ) → Option (List ℕ) → Type 0
Served had has held holds = (document : List ℕ) × Taken had has 32769 document × Appends held holds (printed document)

-- n bytes of a text were written before a write failed
pub record Front (held holds : Option (List ℕ)) (text : List ℕ) (n : ℕ) : Type 0 where
  pub within : n ≤ length text
  pub written : Appends held holds (take n text)

-- a read or a write failed: nothing was written, or a prefix of what is printed for what was read
abbrev pub CutOff : Option (List ℕ) → Option (List ℕ) → Option (List ℕ) → Option (List ℕ) → Type 0
CutOff had has held holds = (document : List ℕ) × (n : ℕ) × Front held holds (printed document) n × (0 < n → Taken had has 32769 document)
