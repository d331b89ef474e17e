-- What is known of an event beside what it says: where it lies, and that the reader has moved on.
use Rattle.std.specs.Prelude.{◌≡◌, Bool, List, ℕ, ◌+◌, ◌*◌, ◌-◌, ◌≤◌, ◌<◌, length, Option, Some, None, Result, Ok, Err, IfOk, IfSome}
use Rattle.texts.specs.Choice.{pick}
use Rattle.texts.specs.Text.{piece}
use Rattle.refusals.specs.declared.Refusal.{Refusal}
use Rattle.tags.specs.declared.noting.Notes.{Notes}
use Rattle.tags.specs.declared.part.Ending.{Ending}
use Rattle.tags.specs.Attributes.{tag_at}
use Rattle.elements.specs.Elements.{element_of}
use Rattle.elements.specs.Keys.{keys_of}
use Rattle.elements.specs.declared.Element.{Element}
use Rattle.tags.specs.internal.Noting.{no_notes, NotedBy}
use Rattle.saxlite.specs.Event.{Events, done, broken}
use Rattle.saxlite.specs.Reader.{cursor_at, to_come, told_before}
use Rattle.saxlite.specs.declared.event.Event.{Event as Found}
use Rattle.saxlite.specs.declared.event.Event.TheVariants.{Text, Open, Close}
use Rattle.elements.specs.declared.Element.TheVariants.{Other}
use Rattle.saxlite.specs.declared.event.Told.{Told}
use Rattle.saxlite.specs.declared.event.Owed.{Owed}
use Rattle.saxlite.specs.declared.event.Cursor.{Cursor}
use Rattle.saxlite.specs.declared.event.Read.{Read}

-- an event without notes, behind which the reader goes on at `next`
abbrev pub bare : Found → Element → ℕ → ℕ → Read
bare event element place next =
    record {
      told = record { event = event; element = element; place = place; noted = no_notes };
      cursor = cursor_at next;
    }

-- where the reader goes on behind an open tag: a self-closed one owes its close
abbrev pub cursor_past : Ending → Owed → Cursor
cursor_past ending o = record { at = ending.next; owed = pick ending.self_closed (Some o) None }

-- ---- what an answer says of the events that were to come

abbrev pub read_in : List ℕ → Result Read Refusal → Events
read_in doc (Ok r) = told_before doc r.told (to_come doc r.cursor)
read_in doc (Err refusal) = broken refusal

abbrev pub asked_in : List ℕ → Result (Option Read) Refusal → Events
asked_in doc (Ok None) = done
asked_in doc (Ok (Some r)) = told_before doc r.told (to_come doc r.cursor)
asked_in doc (Err refusal) = broken refusal

-- ---- what is known of an event beside that

-- how many bytes of the text buffer it may take
abbrev pub takes : Found → ℕ
takes (Text at) = at.len
takes (Open name attributes end) = end - attributes
takes (Close name) = 0

-- the tag whose attributes begin at one position ends at the other
pub record Tagged (doc : List ℕ) (attributes end : ℕ) : Type 0 where
  pub place : ℕ
  pub closed : Bool
  pub is : (tag_at doc attributes place).ending ≡ Ok (record { next = end; self_closed = closed })

-- where text or an open tag lies in the document
abbrev pub Inside : List ℕ → Found → Type 0
Inside doc (Text at) = at.from + at.len ≤ length doc
Inside doc (Open name attributes end) =
    Tagged doc attributes end × (name.from + name.len ≤ length doc)
Inside doc (Close name) = Unit {0}

-- the element of a tag is that of its local name
abbrev pub IsElement : List ℕ → Found → Element → Type 0
IsElement doc (Open name attributes end) e = e ≡ element_of (piece doc name.from name.len)
IsElement doc (Close name) e = e ≡ element_of (piece doc name.from name.len)
IsElement doc (Text at) e = e ≡ Other

-- the notes of an open tag: the values of the four names that its element looks up
abbrev pub NotedIn : List ℕ → Found → Element → Notes → Type 0
NotedIn doc (Open name attributes end) e noted = NotedBy (keys_of e) doc attributes noted
NotedIn doc (Text at) e noted = Unit {0}
NotedIn doc (Close name) e noted = Unit {0}

-- the element of an owed close too
abbrev pub OwedElement : List ℕ → Option Owed → Type 0
OwedElement doc None = Unit {0}
OwedElement doc (Some o) = o.element ≡ element_of (piece doc o.name.from o.name.len)

-- the element told is right: of text and of an open tag for every reader, of a close if the element
-- of a close that was owed is right
abbrev pub TellsElement : List ℕ → Option Owed → Found → Element → Type 0
TellsElement doc o (Open name attributes end) e = IsElement doc (Open name attributes end) e
TellsElement doc o (Close name) e = OwedElement doc o → IsElement doc (Close name) e
TellsElement doc o (Text at) e = IsElement doc (Text at) e

-- the name of an owed close lies in the document
abbrev pub OwedInside : List ℕ → Option Owed → Type 0
OwedInside doc None = Unit {0}
OwedInside doc (Some o) = o.name.from + o.name.len ≤ length doc

-- the name of a close lies there, if that of a close that was owed does
abbrev pub ClosesInside : List ℕ → Option Owed → Found → Type 0
ClosesInside doc o (Close name) = OwedInside doc o → name.from + name.len ≤ length doc
ClosesInside doc o (Text at) = Unit {0}
ClosesInside doc o (Open name attributes end) = Unit {0}

-- a cursor as readers have it, from the document's first byte on
pub record CursorIn (doc : List ℕ) (c : Cursor) : Type 0 where
  pub within : c.at ≤ length doc
  pub owed : OwedElement doc c.owed

-- how many events are left at most: two for each byte, and an owed close
abbrev pub owing : Option Owed → ℕ
owing None = 0
owing (Some o) = 1

abbrev pub left : List ℕ → Cursor → ℕ
left doc c = 2 * (length doc - c.at) + owing c.owed

-- the event t leads from the cursor c on to c', within the document, and fewer events are left
pub record Moves (doc : List ℕ) (c : Cursor) (t : Told) (c' : Cursor) : Type 0 where
  pub grows : c.at + takes t.event ≤ c'.at
  pub less : left doc c' < left doc c
  pub sound : CursorIn doc c → CursorIn doc c'
  pub inside : Inside doc t.event
  pub closes : ClosesInside doc c.owed t.event
  pub owes : OwedInside doc c'.owed
  pub element : TellsElement doc c.owed t.event t.element
  pub noted : NotedIn doc t.event t.element t.noted

-- ---- what functions over the document and a place promise

-- r is the event at `at`, or its refusal, and es are the events from there
pub record Here (es : Events) (doc : List ℕ) (at : ℕ) (r : Result Read Refusal) : Type 0 where
  pub is : es ≡ read_in doc r
  pub moves : IfOk r (λ x. Moves doc (cursor_at at) x.told x.cursor)

-- r is what is read at the cursor c
pub record Asked (doc : List ℕ) (c : Cursor) (r : Result (Option Read) Refusal) : Type 0 where
  pub is : to_come doc c ≡ asked_in doc r
  pub moves : IfOk r (λ o. IfSome o (λ x. Moves doc c x.told x.cursor))

-- what a reader tells moves it on
abbrev pub Advances : List ℕ → Cursor → Cursor → Result (Option Told) Refusal → Type 0
Advances doc c c' o = IfOk o (λ x. IfSome x (λ t. Moves doc c t c'))
