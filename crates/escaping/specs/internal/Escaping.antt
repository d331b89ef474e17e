-- The kinds of escapes, the bytes of a run, and the table of the escapes' lengths.
use Rattle.std.specs.Prelude.{◌≡◌, Bool, List, [], ◌∷◌, ◌++◌, ℕ, ◌<◌, eqb, length, slice_index_or}
use Rattle.texts.specs.Text.{ascii}
use Rattle.escaping.specs.Escape.{hex, escaped}
use Rattle.escaping.specs.declared.Kind.{Kind}
use Rattle.escaping.specs.declared.Kind.TheVariants.{Plain, Letter, Hex}

-- a byte, shown by its kind
abbrev pub shown_as : Kind → ℕ → List ℕ
shown_as Plain b = b ∷ []
shown_as (Letter l) b = 92 ∷ l ∷ []
shown_as Hex b = ascii "\\u{" ++ hex b ++ ascii "}"

-- a byte stands for itself: its escape has one byte
unfoldable pub stands : ℕ → Bool
stands b = eqb (length (escaped b)) 1

-- a lookup table has the length of the escape of each byte that it has an entry for
abbrev pub NotesLengths : List ℕ → Type 0
NotesLengths noted = (b : ℕ) → b < length noted → slice_index_or noted b 0 ≡ length (escaped b)
