-- Rules: Printing. A text as Rust's `{:?}` quotes it (the scope's "Debug escaping").
use Rattle.std.specs.Prelude.{List, [], ◌∷◌, ◌++◌, ℕ, ◌+◌, ◌/◌, ◌%◌, eqb, ltb}
use Rattle.texts.specs.Choice.{pick, ◌or◌}
use Rattle.texts.specs.Text.{ascii}
use Rattle.texts.specs.Lists.{each}

-- a hexadecimal digit, in lower case
abbrev pub hex_digit : ℕ → ℕ
hex_digit d = pick (ltb d 10) (48 + d) (87 + d)

-- a byte in hexadecimal digits, unpadded
unfoldable pub hex : ℕ → List ℕ
hex b = pick (ltb b 16) (hex_digit b ∷ []) (hex_digit (b / 16) ∷ hex_digit (b % 16) ∷ [])

-- the escape of a byte, by ranges of it
unfoldable pub escaped : ℕ → List ℕ
escaped b =
    pick (eqb b 0) (ascii "\\0")
    (pick (eqb b 9) (ascii "\\t")
    (pick (eqb b 10) (ascii "\\n")
    (pick (eqb b 13) (ascii "\\r")
    (pick (eqb b 34) (ascii "\\\"")
    (pick (eqb b 92) (ascii "\\\\")
    (pick (ltb b 32 or eqb b 127) (ascii "\\u{" ++ hex b ++ ascii "}") (b ∷ [])))))))

-- a text in double quotes, each byte escaped
unfoldable pub quoted : List ℕ → List ℕ
quoted s = ascii "\"" ++ each escaped s ++ ascii "\""
