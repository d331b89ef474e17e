-- Laws of the array refusals.
use Rattle.std.proofs.Common.{◌≡◌, Bool, false}
use Rattle.model.specs.Schema.{Item}
use Rattle.xmltoproto.specs.Types.{form_of, is_array}

-- an item without a length is no array
pub array-absent : (it : Item) {g : Bool} → g ≡ it.given → g ≡ false → false ≡ is_array (form_of it)
unfolding form_of is_array
array-absent it e f = rw (← e, f)
