-- The test of a cleaned name.
use Rattle.std.specs.Prelude.{Bool, List, ℕ}
use Rattle.texts.specs.Choice.{◌or◌}
use Rattle.texts.specs.Lists.{is_empty, among}
use Rattle.charsets.specs.Charset.{charsets}

-- it is empty or one of the 13
unfoldable pub is_name : List ℕ → Bool
is_name w = is_empty w or among w charsets
