-- Rules: Markup. Its definitions end by a falling count, the fuel, which never runs out.
use Rattle.std.specs.Prelude.{◌≡◌, List, ℕ, ◌<◌, length}
use Rattle.tags.specs.Attributes.{Tag, tag_within, tag_at}
use Rattle.saxlite.specs.Event.{Events}
use Rattle.saxlite.specs.Events.{events_within, events}

-- a document's events are the same for all fuel above its length, whatever stands for none left
abbrev pub EventsEnd : Type 0
EventsEnd = (doc : List ℕ) (spent : Events) (k : ℕ) → length doc < k → events_within spent k doc 0 ≡ events doc

-- and so is a tag
abbrev pub TagsEnd : Type 0
TagsEnd = (doc : List ℕ) (at place : ℕ) (spent : Tag) (k : ℕ) → length doc < k → tag_within spent k doc at place ≡ tag_at doc at place
