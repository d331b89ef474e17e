-- Rules: Names. Raising and lowering a letter; every other byte stays as it is.
use Rattle.std.specs.Prelude.{ℕ, ◌+◌, ◌-◌}
use Rattle.texts.specs.Choice.{pick}
use Rattle.classes.specs.Class.{is_upper, is_lower}

-- an upper-case letter made lower case
unfoldable pub lowered : ℕ → ℕ
lowered b = pick (is_upper b) (b + 32) b

-- a lower-case letter made upper case
unfoldable pub raised : ℕ → ℕ
raised b = pick (is_lower b) (b - 32) b
