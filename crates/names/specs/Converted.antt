-- Rules: Names. The conversion that each `Conversion` stands for.
use Rattle.std.specs.Prelude.{List, ℕ}
use Rattle.names.specs.Conversions.{camel_to_snake, snake_to_camel, camel_to_screaming_snake, screaming_snake_to_pascal, singular_pascal}
use Rattle.names.specs.declared.entry.Conversion.{Conversion}
use Rattle.names.specs.declared.entry.Conversion.TheVariants.{Snake, Camel, Screaming, Pascal, Singular}

-- the name, converted
unfoldable pub converted : Conversion → List ℕ → List ℕ
converted Snake name = camel_to_snake name
converted Camel name = snake_to_camel name
converted Screaming name = camel_to_screaming_snake name
converted Pascal name = screaming_snake_to_pascal name
converted Singular name = singular_pascal name
