-- Where a byte, and where a text, stands among eight places.
use Rattle.std.specs.Prelude.{◌≡◌, List, [], ◌∷◌, map, ℕ, zero, suc, eqb, drop}
use Rattle.texts.specs.Choice.{pick}
use Rattle.texts.specs.Text.{piece, starts_with}
use Rattle.swar.specs.Word.{word_of}

-- 128, a byte's high bit, if b is x, else 0
abbrev pub mark : ℕ → ℕ → ℕ
mark x b = pick (eqb b x) 128 0

-- m has the high bit of each of the 8 bytes from i on that is x, and no other bit
pub record Marked (x : ℕ) (s : List ℕ) (i m : ℕ) : Type 0 where
  pub is : m ≡ word_of (map (mark x) (piece s i 8))

-- the first n places of u, each as what is left of u there
unfoldable pub places : ℕ → List ℕ → List (List ℕ)
places zero u = []
places (suc n) u = u ∷ places n (drop 1 u)

-- m has the high bit of each of the 8 places from i on where the text stands, and no other bit
pub record Flagged (text s : List ℕ) (i m : ℕ) : Type 0 where
  pub is : m ≡ word_of (map (λ u. pick (starts_with text u) 128 0) (places 8 (drop i s)))
