-- Rules: Printing. Which character encodings are UTF-8 compatible.
use Rattle.std.specs.Prelude.{Bool, List, [], ◌∷◌, ℕ, eqb}
use Rattle.texts.specs.Choice.{pick, ◌or◌}
use Rattle.texts.specs.Text.{ascii}
use Rattle.texts.specs.Trim.{trimmed}
use Rattle.classes.specs.Letters.{lowered}
use Rattle.texts.specs.Lists.{is_empty, among}

-- `-`, `_`, `.`, `:` and the space
unfoldable pub is_punctuation : ℕ → Bool
is_punctuation b = eqb b 45 or eqb b 95 or eqb b 46 or eqb b 58 or eqb b 32

-- a name without punctuation, its letters lowered
unfoldable pub cleaned : List ℕ → List ℕ
cleaned [] = []
cleaned (b ∷ s) = let rest = cleaned s in pick (is_punctuation b) rest (lowered b ∷ rest)

-- the 13 known names, cleaned
abbrev pub charsets : List (List ℕ)
charsets =
    ascii "usascii" ∷ ascii "ascii" ∷ ascii "ansix341968" ∷ ascii "ansix341986" ∷ ascii "iso646us" ∷ ascii "isoir6" ∷ ascii "iso646irv1991"
    ∷ ascii "us" ∷ ascii "ibm367" ∷ ascii "cp367" ∷ ascii "csascii" ∷ ascii "utf8" ∷ ascii "csutf8" ∷ []

-- the scope's "compatible": nothing is left of the name, trimmed and cleaned, or one of the 13
unfoldable pub compatible : List ℕ → Bool
compatible encoding = is_empty (cleaned (trimmed encoding)) or among (cleaned (trimmed encoding)) charsets
