-- The array that an index is built in: zeros, and long enough for the schema.
use Rattle.std.specs.Prelude.{◌≡◌, List, ℕ, ◌+◌, ◌*◌, ◌<◌, ltb, length, get_or}
use Rattle.texts.specs.Choice.{pick}
use Rattle.model.specs.Schema.{Schema, a_field}

-- how many kinds there are, 0 among them
abbrev pub kinds : ℕ
kinds = a_field + 1

-- how many numbers an item takes: two, and one for each kind
abbrev pub per_item : ℕ
per_item = 2 + kinds

-- the mask of the hashes, by the number of items: 1,024 chains, or 128 for at most 128 items
unfoldable pub mask_of : ℕ → ℕ
mask_of n = pick (ltb 128 n) 1023 127

-- the numbers of each item and one for each chain
pub record Blank (s : Schema) (ix : List ℕ) : Type 0 where
  pub long : per_item * length s.items + mask_of (length s.items) < length ix
  pub zero : (k : ℕ) → get_or ix k 0 ≡ 0
