-- Rules: Markup. The byte classes, by which the reader and the name conversions go.
use Rattle.std.specs.Prelude.{Bool, ℕ, eqb, leb}
use Rattle.texts.specs.Choice.{◌or◌, ◌and◌}

-- the scope's space: tab, line feed, carriage return, space
unfoldable pub is_space : ℕ → Bool
is_space b = eqb b 9 or eqb b 10 or eqb b 13 or eqb b 32

-- the scope's tag-name end: a space, '>' or '/'
unfoldable pub is_tag_name_end : ℕ → Bool
is_tag_name_end b = is_space b or eqb b 62 or eqb b 47

-- the scope's attribute-name end: these and '='
unfoldable pub is_attribute_name_end : ℕ → Bool
is_attribute_name_end b = is_tag_name_end b or eqb b 61

-- the scope's upper case: 'A' to 'Z'
unfoldable pub is_upper : ℕ → Bool
is_upper b = leb 65 b and leb b 90

-- the scope's lower case: 'a' to 'z'
unfoldable pub is_lower : ℕ → Bool
is_lower b = leb 97 b and leb b 122
