-- Rules: Markup. The five entities, decoded once, from left to right in one pass; every other `&`
-- stays.
use Rattle.std.specs.Prelude.{◌≡◌, List, [], ◌∷◌, ℕ, zero, suc, ◌+◌, ◌-◌, eqb, leb, length, Option, Some, None}
use Rattle.std.proofs.lemmas.List.Edits.{sets}
use Rattle.texts.specs.Choice.{pick}
use Rattle.texts.specs.Text.{ascii, starts_with}
use Rattle.entities.specs.declared.Unit.{Unit}

-- a `&` with the text s behind it: the byte that they stand for, and how many bytes they take
-- together
unfoldable pub entity : List ℕ → Unit
entity s =
    pick (starts_with (ascii "lt;") s) (record { byte = 60; len = 4 })
    (pick (starts_with (ascii "gt;") s) (record { byte = 62; len = 4 })
    (pick (starts_with (ascii "quot;") s) (record { byte = 34; len = 6 })
    (pick (starts_with (ascii "apos;") s) (record { byte = 39; len = 6 })
    (pick (starts_with (ascii "amp;") s) (record { byte = 38; len = 5 })
    (record { byte = 38; len = 1 })))))

-- the byte that the front of a text stands for, and how many bytes the front takes
unfoldable pub front : List ℕ → Unit
front [] = record { byte = 0; len = 1 }
front (x ∷ xs) = pick (eqb x 38) (entity xs) (record { byte = x; len = 1 })

-- a text decoded, but for its first k bytes
unfoldable pub decoded_past : ℕ → List ℕ → List ℕ
decoded_past k [] = []
decoded_past zero (x ∷ xs) = let u = front (x ∷ xs) in u.byte ∷ decoded_past (u.len - 1) xs
decoded_past (suc k) (x ∷ xs) = decoded_past k xs

-- a text decoded
abbrev pub decoded : List ℕ → List ℕ
decoded s = decoded_past 0 s

-- n bytes are written into dst from `at` on, the text raw decoded, which makes it `after`
abbrev pub Decodes : List ℕ → List ℕ → ℕ → ℕ → List ℕ → Type 0
Decodes raw dst at n after = (n ≡ length (decoded raw)) × (after ≡ sets dst at (decoded raw))

-- what decoding promises of the text raw, the slice dst and the place `at`: where the raw bytes
-- fit, the answer r is the decoded length, and the decoded bytes lie in dst from `at` on; else None,
-- and dst is as it was
pub record DecodedInto (raw dst : List ℕ) (at : ℕ) (r : Option ℕ) (after : List ℕ) : Type 0 where
  pub says : r ≡ pick (leb (at + length raw) (length dst)) (Some (length (decoded raw))) None
  pub left : after ≡ pick (leb (at + length raw) (length dst)) (sets dst at (decoded raw)) dst
