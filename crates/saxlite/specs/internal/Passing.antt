-- Skipping markup that is no event: comments, instructions, declarations.
use Rattle.std.specs.Prelude.{◌≡◌, Bool, false, List, ℕ, ◌+◌, ◌≤◌, ◌<◌, length, drop, Option, Some, None, Result, Ok, Err, IfOk}
use Rattle.std.specs.Result.{IfErr}
use Rattle.texts.specs.Choice.{◌or◌}
use Rattle.texts.specs.Text.{starts_with}
use Rattle.texts.specs.Scan.{scan, until, is as byte_is}
use Rattle.refusals.specs.declared.Refusal.{Refusal}
use Rattle.tags.specs.Find.{stands, find_from}
use Rattle.saxlite.specs.Event.{broken}
use Rattle.saxlite.specs.Events.{events_from}

-- the events are the same from r on as from `at` on, and r is `at` or further on
pub record Passed (doc : List ℕ) (at r : ℕ) : Type 0 where
  pub is : events_from doc at ≡ events_from doc r
  pub forward : at ≤ r
  pub within : at ≤ length doc → r ≤ length doc

-- whether markup that is no event begins at `at`
unfoldable pub is_silent : List ℕ → ℕ → Bool
is_silent doc at = stands "<!" doc at or stands "<?" doc at

-- r is past one such piece or more, or refuses the one that does not end
pub record PassedSome (doc : List ℕ) (at : ℕ) (r : Result ℕ Refusal) : Type 0 where
  pub on : IfOk r (λ i. Passed doc at i × (at < i) × (i ≤ length doc))
  pub broken : IfErr r (λ q. events_from doc at ≡ broken q)

-- r is past all such markup, or refuses the piece that does not end
pub record PassedAll (doc : List ℕ) (at : ℕ) (r : Result ℕ Refusal) : Type 0 where
  pub on : IfOk r (λ i. Passed doc at i × (is_silent doc i ≡ false))
  pub broken : IfErr r (λ q. events_from doc at ≡ broken q)

-- r says whether the needle stands at i
pub record Stands (needle doc : List ℕ) (i : ℕ) (r : Bool) : Type 0 where
  pub is : starts_with needle (drop i doc) ≡ r

-- r is the first position from `from` on where the needle stands; where it stands nowhere, the
-- document's length or more
pub record FoundAt (needle doc : List ℕ) (from r : ℕ) : Type 0 where
  pub is : r < length doc → find_from needle doc from ≡ Some r
  pub none : length doc ≤ r → find_from needle doc from ≡ None

-- if o is a position, it is that of the first x from `at` on
pub record FirstAt (x : ℕ) (doc : List ℕ) (at : ℕ) (o : Option ℕ) : Type 0 where
  pub is : {i : ℕ} → o ≡ Some i → (i ≡ scan (until (byte_is x)) doc at) × (i < length doc)

-- if o is a position, it is the first from `from` on where the needle stands
pub record EndsAt (needle doc : List ℕ) (from : ℕ) (o : Option ℕ) : Type 0 where
  pub is : {i : ℕ} → o ≡ Some i → FoundAt needle doc from i × (i < length doc)

-- r is past the n bytes at `end`, or refuses if the end was not found within the document
pub record EndPassed (doc : List ℕ) (end n : ℕ) (refusal : Refusal) (r : Result ℕ Refusal) : Type 0 where
  pub past : end < length doc → r ≡ Ok (end + n)
  pub refused : length doc ≤ end → r ≡ Err refusal
