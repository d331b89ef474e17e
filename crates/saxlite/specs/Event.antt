-- Rules: Markup. Events: what the reader yields, one at a time.
use Rattle.std.specs.Prelude.{List, ℕ, Option, Some, None}
use Rattle.texts.specs.Text.{piece}
use Rattle.entities.specs.Entities.{decoded}
use Rattle.texts.specs.declared.Range.{Range}
use Rattle.refusals.specs.declared.Refusal.{Refusal}
use Rattle.tags.specs.Attributes.{attribute_at}

-- a tag's attributes: the decoded value of a local name, if there is one
abbrev pub Attributes : Type 0
Attributes = List ℕ → Option (List ℕ)

-- the scope's event: decoded text; an open tag, with its local name and its attributes; a close
-- tag, with its local name
pub data Event : Type 0 where
  text : List ℕ → Event
  opens : List ℕ → Attributes → Event
  closes : List ℕ → Event

-- the events of a document in their order, each with its place; at last its end, or the refusal
pub data Events : Type 0 where
  done : Events
  broken : Refusal → Events
  next : ℕ → Event → Events → Events

-- a raw value that was found, decoded
abbrev pub value_in : List ℕ → Option Range → Option (List ℕ)
value_in doc (Some found) = Some (decoded (piece doc found.from found.len))
value_in doc None = None

-- the attributes of the tag whose attributes begin at that position
abbrev pub attributes_in : List ℕ → ℕ → Attributes
attributes_in doc attributes key = value_in doc (attribute_at doc attributes key)
