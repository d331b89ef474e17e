-- Rules: Limits and refusals. How many items there may be, how many elements may be open, how long
-- a document may be, and how long the two buffers for its model have to be.
use Rattle.std.specs.Prelude.{ℕ}

pub record Limits : Type 0 where
  pub items : ℕ
  pub depth : ℕ

-- no limits that the code has are above these
abbrev pub max_items : ℕ
max_items = 1024

abbrev pub max_depth : ℕ
max_depth = 64

abbrev pub highest : Limits
highest = record { items = max_items; depth = max_depth }

-- in bytes
abbrev pub max_document : ℕ
max_document = 32768

-- in numbers of 32 bits
abbrev pub min_records : ℕ
min_records = 16384

-- in bytes
abbrev pub min_text : ℕ
min_text = 65536
