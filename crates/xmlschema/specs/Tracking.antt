-- Rules: The builder. A validValue that closes while an enum is current finds a value of that enum:
-- the Rust's panic "validValue tracking" cannot be reached. And what reading accepts was so reached.
use Rattle.std.specs.Prelude.{◌≡◌, true, List, ℕ, Some}
use Rattle.texts.specs.Text.{same}
use Rattle.saxlite.specs.Event.{Event, Events, closes, done, next}
use Rattle.saxlite.specs.Events.{events}
use Rattle.model.specs.Schema.{Schema, under, last, a_value}
use Rattle.elements.specs.Elements.{element_of}
use Rattle.elements.specs.declared.Element.TheVariants.{ValidValue}
use Rattle.builder.specs.Builder.{Builder, on, top}
use Rattle.builder.specs.Limits.{Limits}
use Rattle.xmlschema.specs.Whole.{step, built, empty, accepted, reading}

-- after some of a document's events the builder is this one, and these events are still to come
pub data Reached (l : Limits) (doc : List ℕ) : Events → Builder → Type 0 where
  start : Reached l doc (events doc) empty
  further : (place : ℕ) (event : Event) (more : Events) (b b' : Builder)
      → Reached l doc (next place event more) b → step l place event b ≡ on b'
      → Reached l doc more b'

-- the enum at a position has a value
pub record HasValue (enum : ℕ) (s : Schema) : Type 0 where
  pub at : ℕ
  pub is : last (under a_value enum s) ≡ Some at

-- where the close tag of an open validValue is next and an enum is current, that enum has a value
abbrev pub ValuesFound : Type 0
ValuesFound =
    (l : Limits) (doc : List ℕ) (place : ℕ) (name : List ℕ) (more : Events) (b : Builder)
    (enum : ℕ) →
    Reached l doc (next place (closes name) more) b → element_of name ≡ ValidValue →
    same name (top b.stack) ≡ true → b.current.enum ≡ Some enum → HasValue enum b.schema

-- where no event is left, a builder with this schema is reached
pub record Comes (l : Limits) (doc : List ℕ) (s : Schema) : Type 0 where
  pub builder : Builder
  pub reached : Reached l doc done builder
  pub is : builder.schema ≡ s

-- the schema that reading a document gives is that of a builder so reached
abbrev pub AcceptedReached : Type 0
AcceptedReached =
    (l : Limits) (doc : List ℕ) (s : Schema) → reading l doc ≡ accepted s → Comes l doc s

-- from a builder that is reached, the events to come make what the whole document makes
abbrev pub ReachedOn : Type 0
ReachedOn =
    (l : Limits) (doc : List ℕ) (more : Events) (b : Builder) → Reached l doc more b →
    built l more b ≡ built l (events doc) empty
