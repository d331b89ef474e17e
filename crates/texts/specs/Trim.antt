-- Rules: The builder (collected text), Printing (encodings). Trimming a text at both ends.
use Rattle.std.specs.Prelude.{◌≡◌, Bool, List, [], ◌∷◌, ℕ, ◌+◌, ◌≤◌, eqb, leb, length, take, drop}
use Rattle.texts.specs.Choice.{pick, ◌or◌, ◌and◌}
use Rattle.texts.specs.Text.{piece, same}
use Rattle.std.specs.List.{prefix_len}
use Rattle.texts.specs.declared.Range.{Range}

-- what is trimmed: bytes 9 to 13 and 32
unfoldable pub is_blank : ℕ → Bool
is_blank b = leb 9 b and leb b 13 or eqb b 32

-- without the blanks at the front
unfoldable pub trimmed_front : List ℕ → List ℕ
trimmed_front s = drop (prefix_len is_blank s) s

-- without the blanks at the back: a blank is dropped where nothing is left behind it
unfoldable pub trimmed_back : List ℕ → List ℕ
trimmed_back [] = []
trimmed_back (b ∷ s) = let rest = trimmed_back s in pick (is_blank b and same rest []) [] (b ∷ rest)

-- without the blanks at both ends
unfoldable pub trimmed : List ℕ → List ℕ
trimmed s = trimmed_back (trimmed_front s)

-- the range r holds the trimmed text of the range (from, len), and lies within it
pub record TrimmedTo (s : List ℕ) (from len : ℕ) (r : Range) : Type 0 where
  pub is : piece s r.from r.len ≡ trimmed (piece s from len)
  pub low : from ≤ r.from
  pub high : r.from + r.len ≤ from + len

-- the first n bytes of s are s without the blanks at its back
pub record KeptTo (s : List ℕ) (n : ℕ) : Type 0 where
  pub is : take n s ≡ trimmed_back s
  pub within : n ≤ length s
