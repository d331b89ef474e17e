-- What a reader yields: the event that is next, and then those that are still to come.
use Rattle.std.specs.Prelude.{◌≡◌, List, ℕ, Option, Some, None, Result, Ok, Err}
use Rattle.texts.specs.Text.{piece}
use Rattle.refusals.specs.declared.Refusal.{Refusal}
use Rattle.entities.specs.Entities.{decoded}
use Rattle.saxlite.specs.Event.{Event, Events, text, opens, closes, done, broken, next, attributes_in}
use Rattle.saxlite.specs.Events.{events_from}
use Rattle.saxlite.specs.declared.event.Event.{Event as Found}
use Rattle.saxlite.specs.declared.event.Event.TheVariants.{Text, Open, Close}
use Rattle.saxlite.specs.declared.event.Told.{Told}
use Rattle.saxlite.specs.declared.event.Owed.{Owed}
use Rattle.saxlite.specs.declared.event.Cursor.{Cursor}
use Rattle.saxlite.specs.declared.reader.Reader.{Reader}

-- the event that ranges of the document stand for
abbrev pub event_in : List ℕ → Found → Event
event_in doc (Text at) = text (decoded (piece doc at.from at.len))
event_in doc (Open name attributes end) =
    opens (piece doc name.from name.len) (attributes_in doc attributes)
event_in doc (Close name) = closes (piece doc name.from name.len)

-- a position with no close owed
abbrev pub cursor_at : ℕ → Cursor
cursor_at at = record { at = at; owed = None }

-- an owed close comes before the other events, with the place of its tag
abbrev pub owed_before : List ℕ → Option Owed → Events → Events
owed_before doc None more = more
owed_before doc (Some o) more = next o.place (closes (piece doc o.name.from o.name.len)) more

-- the events that are still to come
abbrev pub to_come : List ℕ → Cursor → Events
to_come doc c = owed_before doc c.owed (events_from doc c.at)

-- an event that was yielded, before those that follow it
abbrev pub told_before : List ℕ → Told → Events → Events
told_before doc t more = next t.place (event_in doc t.event) more

-- what an answer says of the events that were to come: itself, with `more` to come behind it
abbrev pub yielded_in : List ℕ → Result (Option Told) Refusal → Events → Events
yielded_in doc (Ok None) more = done
yielded_in doc (Ok (Some t)) more = told_before doc t more
yielded_in doc (Err refusal) more = broken refusal

-- an event moves the reader on; the end and a refusal leave it where it stood
abbrev pub Stays : Cursor → Cursor → Result (Option Told) Refusal → Type 0
Stays c c' (Ok None) = c' ≡ c
Stays c c' (Ok (Some t)) = Unit {0}
Stays c c' (Err refusal) = c' ≡ c

-- the reader r yields o and is r' then: what was to come for r is o, then what is to come for r'
pub record Yields (r r' : Reader) (o : Result (Option Told) Refusal) : Type 0 where
  pub doc : r'.doc ≡ r.doc
  pub is : to_come r.doc.now r.cursor ≡ yielded_in r.doc.now o (to_come r.doc.now r'.cursor)
  pub stays : Stays r.cursor r'.cursor o
