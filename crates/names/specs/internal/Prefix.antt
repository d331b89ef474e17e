-- How far the test for the enum's prefix has come in the value's name.
use Rattle.std.specs.Prelude.{Option, Some, None, List, ℕ, ◌+◌, length, drop}
use Rattle.texts.specs.Choice.{pick}
use Rattle.texts.specs.Text.{starts_with}

-- the position after w, where w stands at j in s; else None
unfoldable pub past_text : List ℕ → List ℕ → ℕ → Option ℕ
past_text w s j = pick (starts_with w (drop j s)) (Some (j + length w)) None
