-- Rules: Names. The six conversions of a name. Those between cases go position by position: what
-- each position of the name gives, one after another. Before the first byte there is none,
-- which `ltb 0 i` tells; the byte after the last one counts as 0, which is no letter.
use Rattle.std.specs.Prelude.{Bool, not, List, [], ◌∷◌, ◌++◌, ℕ, ◌+◌, ◌-◌, eqb, ltb, length, get_or, take, drop}
use Rattle.texts.specs.Choice.{pick, ◌or◌, ◌and◌}
use Rattle.texts.specs.Text.{ascii, starts_with}
use Rattle.classes.specs.Class.{is_upper, is_lower}
use Rattle.printing.specs.Repeated.{up_to}
use Rattle.classes.specs.Letters.{lowered, raised}

-- ---- the two cases with `_` between words

-- what position i gives: a `_` where `breaks` puts one, and its byte as `shown` has it
unfoldable pub cased_at : (List ℕ → ℕ → Bool) → (ℕ → ℕ) → List ℕ → ℕ → List ℕ
cased_at breaks shown s i = pick (breaks s i) (ascii "_") [] ++ (shown (get_or s i 0) ∷ [])

-- what all positions give
unfoldable pub cased : (List ℕ → ℕ → Bool) → (ℕ → ℕ) → List ℕ → List ℕ
cased breaks shown s = up_to (cased_at breaks shown s) (length s)

-- snake case: a `_` goes before an upper-case letter, not the first byte, that stands right after
-- or right before a lower-case letter
unfoldable pub breaks_snake : List ℕ → ℕ → Bool
breaks_snake s i = ltb 0 i and is_upper (get_or s i 0) and (is_lower (get_or s (i - 1) 0) or is_lower (get_or s (i + 1) 0))

-- a name in snake case (the scope's "snake"): its letters lowered
unfoldable pub camel_to_snake : List ℕ → List ℕ
camel_to_snake s = cased breaks_snake lowered s

-- screaming snake case: a `_` goes before an upper-case letter right after a lower-case one
unfoldable pub breaks_screaming : List ℕ → ℕ → Bool
breaks_screaming s i = ltb 0 i and is_upper (get_or s i 0) and is_lower (get_or s (i - 1) 0)

-- a name in screaming snake case (the scope's "screaming"): its letters raised
unfoldable pub camel_to_screaming_snake : List ℕ → List ℕ
camel_to_screaming_snake s = cased breaks_screaming raised s

-- ---- the two cases without `_`, from the two with it

-- the byte is `_`
abbrev pub underscore : ℕ → Bool
underscore b = eqb b 95

-- position i stands right after a `_`
unfoldable pub follows : List ℕ → ℕ → Bool
follows s i = ltb 0 i and underscore (get_or s (i - 1) 0)

-- what position i gives: nothing for `_`, else what `shown` has there
unfoldable pub joined_at : (List ℕ → ℕ → ℕ) → List ℕ → ℕ → List ℕ
joined_at shown s i = pick (underscore (get_or s i 0)) [] (shown s i ∷ [])

-- what all positions give
unfoldable pub joined : (List ℕ → ℕ → ℕ) → List ℕ → List ℕ
joined shown s = up_to (joined_at shown s) (length s)

-- camel case: a letter after `_` raised, any other byte as it is
unfoldable pub camel_shown : List ℕ → ℕ → ℕ
camel_shown s i = let b = get_or s i 0 in pick (follows s i) (raised b) b

-- snake case made camel case
unfoldable pub snake_to_camel : List ℕ → List ℕ
snake_to_camel s = joined camel_shown s

-- Pascal case: a letter at the front or after `_` raised, any other lowered
unfoldable pub pascal_shown : List ℕ → ℕ → ℕ
pascal_shown s i = let b = get_or s i 0 in pick (eqb i 0 or follows s i) (raised b) (lowered b)

-- screaming snake case made Pascal case
unfoldable pub screaming_snake_to_pascal : List ℕ → List ℕ
screaming_snake_to_pascal s = joined pascal_shown s

-- ---- the enum's prefix

-- the prefix of an enum's value names: its name in screaming snake case, and a `_`
unfoldable pub prefix_of : List ℕ → List ℕ
prefix_of enum = camel_to_screaming_snake enum ++ ascii "_"

-- the value's name without the prefix, where it begins with it; else all of it
unfoldable pub without_prefix : List ℕ → List ℕ → List ℕ
without_prefix value enum = pick (starts_with (prefix_of enum) value) (drop (length (prefix_of enum)) value) value

-- what remains of the value's name, in Pascal case
unfoldable pub strip_enum_prefix : List ℕ → List ℕ → List ℕ
strip_enum_prefix value enum = screaming_snake_to_pascal (without_prefix value enum)

-- ---- the singular

-- s ends with e
abbrev pub ends_with : List ℕ → List ℕ → Bool
ends_with e s = starts_with e (drop (length s - length e) s)

-- the name is longer than 3 and ends in `ies`
unfoldable pub ends_in_ies : List ℕ → Bool
ends_in_ies s = ltb 3 (length s) and ends_with (ascii "ies") s

-- the name is longer than 1 and ends in `s`, but not in `ss`
unfoldable pub ends_in_s : List ℕ → Bool
ends_in_s s = ltb 1 (length s) and ends_with (ascii "s") s and not (ends_with (ascii "ss") s)

-- the last `ies` becomes `y`; else the last `s` is dropped
unfoldable pub singular : List ℕ → List ℕ
singular s = pick (ends_in_ies s) (take (length s - 3) s ++ ascii "y") (pick (ends_in_s s) (take (length s - 1) s) s)

-- the first letter raised
unfoldable pub capitalized : List ℕ → List ℕ
capitalized [] = []
capitalized (b ∷ s) = raised b ∷ s

-- the singular, its first letter raised (the scope's "singular")
unfoldable pub singular_pascal : List ℕ → List ℕ
singular_pascal s = capitalized (singular s)
