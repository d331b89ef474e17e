-- Rules: Limits and refusals. What reading a document answers, and what the work buffers hold then.
use Rattle.std.specs.Prelude.{◌≡◌, List, ◌⊎◌, ℕ, ◌<◌, length, Result, Ok, Err}
use Rattle.refusals.specs.declared.Refusal.{Refusal}
use Rattle.model.specs.internal.Store.{schema_of}
use Rattle.model.specs.declared.Model.{Model}
use Rattle.builder.specs.Limits.{min_records, min_text}
use Rattle.xmlschema.specs.Whole.{Whole, accepted, refused_by, answer_of}

-- what an answer says, with what the two buffers hold then
abbrev pub shown : Result Model Refusal → List ℕ → List ℕ → Whole
shown (Ok m) rec text = accepted (schema_of m rec text)
shown (Err r) rec text = refused_by r

-- the answer, whatever the buffers held before; if one of them is too short, both hold that still
pub record ReadInto (doc rec text : List ℕ) (r : Result Model Refusal) (rec' text' : List ℕ)
    : Type 0
  where
    pub is : shown r rec' text' ≡ answer_of doc (length rec) (length text)
    pub untouched : (length rec < min_records) ⊎ (length text < min_text)
        → (rec' ≡ rec) × (text' ≡ text)
