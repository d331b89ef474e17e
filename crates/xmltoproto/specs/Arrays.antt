-- Rules: Limits and refusals. Refusals 40 and 41: arrays that no proto field represents.
use Rattle.std.specs.Prelude.{◌≡◌, Bool, false, List, [], ◌∷◌, ℕ, ◌+◌, Option, None, Some}
use Rattle.texts.specs.Choice.{pick, ◌or◌, ◌and◌}
use Rattle.texts.specs.Lists.{any}
use Rattle.refusals.specs.declared.Refusal.{Refusal}
use Rattle.refusals.specs.declared.Refusal.TheVariants.{ArrayInComposite, ArrayInMessage}
use Rattle.model.specs.Schema.{Schema, item_at, all_of, under, a_member, a_composite, a_message, a_group, a_field}
use Rattle.xmltoproto.specs.Types.{Meaning, declared, typed, unknown, form_of, is_array, meaning}
use Rattle.xmltoproto.specs.Composites.{is_printed}

-- the first element that passes a test, counted from k: the place of 40 and 41 (the scope's
-- "place")
unfoldable pub first_from : ℕ → (ℕ → Bool) → List ℕ → Option ℕ
first_from k p [] = None
first_from k p (i ∷ is) = let rest = first_from (k + 1) p is in pick (p i) (Some k) rest

-- the composite at c is printed and holds such an array
unfoldable pub refused_composite : Schema → ℕ → Bool
refused_composite s c = is_printed (item_at s c) and any (λ m. is_array (form_of (item_at s m))) (under a_member c s)

-- what a type name stands for is such an array
abbrev pub is_array_type : Meaning → Bool
is_array_type declared = false
is_array_type (typed t) = is_array t
is_array_type unknown = false

-- the message or group at `owner` holds a field of such a type
unfoldable pub holds_array : Schema → ℕ → Bool
holds_array s owner = any (λ f. is_array_type (meaning s (item_at s f).second)) (under a_field owner s)

-- the message at m, or one of its groups, holds such a field
unfoldable pub refused_message : Schema → ℕ → Bool
refused_message s m = holds_array s m or any (holds_array s) (under a_group m s)

-- 40 by composite, counted among all composites, then 41 by message
abbrev pub first_of : Option ℕ → Option ℕ → Option Refusal
first_of (Some c) m = Some (ArrayInComposite c)
first_of None (Some m) = Some (ArrayInMessage m)
first_of None None = None

-- the refusal of a schema's arrays, if any
unfoldable pub array_refusal : Schema → Option Refusal
array_refusal s = first_of (first_from 0 (refused_composite s) (all_of a_composite s)) (first_from 0 (refused_message s) (all_of a_message s))

-- refused by neither
abbrev pub Accepted : Schema → Type 0
Accepted s = array_refusal s ≡ None
