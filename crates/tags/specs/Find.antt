-- Rules: Markup. What stands at a position of the document, and where a text first occurs.
use Rattle.std.specs.Prelude.{Bool, true, false, List, [], ◌∷◌, ℕ, ◌+◌, drop, Option, Some, None}
use Prim.Native.String.{String}
use Rattle.texts.specs.Text.{ascii, starts_with}

-- whether the quoted text stands at position i
abbrev pub stands : String → List ℕ → ℕ → Bool
stands w doc i = starts_with (ascii w) (drop i doc)

-- where a needle first stands in a text whose first byte has position i
unfoldable pub find_in : List ℕ → List ℕ → ℕ → Option ℕ
find_in needle [] i = elim (starts_with needle []) [ true ↦ Some i | false ↦ None ]
find_in needle (x ∷ xs) i = elim (starts_with needle (x ∷ xs)) [ true ↦ Some i | false ↦ find_in needle xs (i + 1) ]

-- where a needle first stands in the document, from a position on
abbrev pub find_from : List ℕ → List ℕ → ℕ → Option ℕ
find_from needle doc from = find_in needle (drop from doc) from
