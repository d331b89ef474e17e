-- What the loop over the events keeps.
use Rattle.std.specs.Prelude.{◌≡◌, ◌≤◌, Result, Ok, Err}
use Rattle.refusals.specs.declared.Refusal.{Refusal}
use Rattle.saxlite.specs.Events.{events}
use Rattle.saxlite.specs.Reader.{event_in, to_come}
use Rattle.saxlite.specs.internal.Moving.{takes, Inside, IsElement, NotedIn, CursorIn}
use Rattle.saxlite.specs.declared.event.Told.{Told}
use Rattle.saxlite.specs.declared.reader.Reader.{Reader}
use Rattle.builder.specs.internal.Layout.{builder_in, used_by, Sound, Ready, Makes}
use Rattle.builder.specs.declared.state.State.{State}
use Rattle.builder.specs.declared.work.Work.{Work}
use Rattle.xmlschema.specs.Whole.{step, built, empty}

-- what a step asks: the texts of the event have room, it lies in the document, and its element and
-- its notes are right
abbrev pub Takes : Work → State → Told → Type 0
Takes w s t =
    Ready w s (takes t.event)
    × Inside w.doc.now t.event
    × IsElement w.doc.now t.event t.element
    × NotedIn w.doc.now t.event t.element t.noted

-- what it gives: r, over the buffers as they are then, is what the event makes of the builder
abbrev pub Stepped : Work → State → Told → Work → Result State Refusal → Type 0
Stepped w s t w' r =
    Makes (step w.limits t.place (event_in w.doc.now t.event)) w s (takes t.event) w' r

-- a step that changed the state in place, as one by value
abbrev pub with_state : State → Result (Unit {0}) Refusal → Result State Refusal
with_state s (Ok u) = Ok s
with_state s (Err refusal) = Err refusal

-- the events still to come, taken by the builder so far, make what the whole document makes
pub record Driving (r : Reader) (w : Work) (s : State) : Type 0 where
  pub doc : r.doc.now ≡ w.doc.now
  pub sound : Sound w s
  pub used : used_by s ≤ r.cursor.at
  pub cursor : CursorIn w.doc.now r.cursor
  pub same : built w.limits (to_come r.doc.now r.cursor) (builder_in w s)
      ≡ built w.limits (events w.doc.now) empty
