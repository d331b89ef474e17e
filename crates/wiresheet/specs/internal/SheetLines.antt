-- Single lines of the sheet, as the code prints them.
use Rattle.std.specs.Prelude.{List, [], ◌∷◌, ℕ}
use Rattle.texts.specs.Choice.{pick}
use Rattle.texts.specs.Text.{ascii}
use Rattle.printing.specs.Decimal.{decimal}
use Rattle.names.specs.Conversions.{camel_to_snake, singular_pascal}
use Rattle.model.specs.Schema.{Schema, item_at}
use Rattle.xmltoproto.specs.Composites.{is_printed}
use Rattle.wiresheet.specs.Sheet.{Value, Part, composite_of, shown, kind_shown, composite_shown}

-- the line of a value
unfoldable pub value_shown : Value → List ℕ
value_shown v = shown (ascii "value") (v.name ∷ v.value ∷ [])

-- the line of a member or ref
unfoldable pub part_shown : Part → List ℕ
part_shown p = shown (ascii "part") (kind_shown p.kind ∷ p.name ∷ [])

-- the lines of the composite at c, none if it is not printed
abbrev pub composite_lines : Schema → ℕ → List ℕ
composite_lines s c = pick (is_printed (item_at s c)) (composite_shown (composite_of s c)) []

-- the line of the group at g
unfoldable pub group_line : Schema → ℕ → List ℕ
group_line s g =
    shown (ascii "group") (camel_to_snake (item_at s g).name ∷ singular_pascal (item_at s g).name ∷ decimal (item_at s g).number ∷ [])

-- the line of package, id and version
unfoldable pub schema_line : Schema → List ℕ
schema_line s = shown (ascii "schema") (s.package_name ∷ decimal s.id ∷ decimal s.version ∷ [])
