-- The number of a run of bytes, little-endian. No rule: what the SWAR code is about.
use Rattle.std.specs.Prelude.{◌≡◌, List, [], ◌∷◌, ℕ, ◌+◌, ◌*◌, ◌<◌, length}
use Rattle.texts.specs.Lists.{Every}

-- the bytes as digits to base 256, the first one lowest
unfoldable pub word_of : List ℕ → ℕ
word_of [] = 0
word_of (b ∷ s) = word_of s * 256 + b

-- w is the number of the eight bytes s
pub record IsWord (s : List ℕ) (w : ℕ) : Type 0 where
  pub is : w ≡ word_of s
  pub eight : length s ≡ 8
  pub bytes : Every (λ b. b < 256) s

-- w is the number of the four bytes s, and so below 256 ^ 4
pub record IsHalf (s : List ℕ) (w : ℕ) : Type 0 where
  pub is : w ≡ word_of s
  pub four : length s ≡ 4
  pub bytes : Every (λ b. b < 256) s
  pub small : w < 4294967296
