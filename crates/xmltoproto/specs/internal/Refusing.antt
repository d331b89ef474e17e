-- The array refusal as the code answers it.
use Rattle.std.specs.Prelude.{◌≡◌, false, ℕ, Option, None, Some, Result, Ok, Err}
use Rattle.refusals.specs.declared.Refusal.{Refusal}
use Rattle.model.specs.Schema.{Schema, item_at}
use Rattle.xmltoproto.specs.Types.{form_of, is_array}

-- the array refusal as a `Result`
abbrev pub refusing : Option Refusal → Result (Unit {0}) Refusal
refusing None = Ok tt
refusing (Some r) = Err r

-- no item has the form of an array that no proto field represents
pub record Arrayless (s : Schema) : Type 0 where
  pub none : (i : ℕ) → is_array (form_of (item_at s i)) ≡ false
