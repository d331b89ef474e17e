-- Rules: Limits and refusals. What a whole document gives: its schema, or its first refusal.
use Rattle.std.specs.Prelude.{false, List, [], ℕ, ltb, length, None}
use Rattle.texts.specs.Choice.{pick, ◌or◌}
use Rattle.texts.specs.Scan.{scan, is_ascii}
use Rattle.refusals.specs.declared.Refusal.{Refusal}
use Rattle.refusals.specs.declared.Refusal.TheVariants.{TooLong, NoWorkSpace, NotAscii, OpenElements}
use Rattle.saxlite.specs.Event.{Event, Events, text, opens, closes, done, broken, next}
use Rattle.saxlite.specs.Events.{events}
use Rattle.model.specs.Schema.{Schema}
use Rattle.builder.specs.Builder.{Builder, Outcome, on, refused, opened, closed, collect}
use Rattle.builder.specs.Limits.{Limits, highest, max_document, min_records, min_text}

-- what an event makes of the builder; refusals hold its place
abbrev pub step : Limits → ℕ → Event → Builder → Outcome
step l place (text s) b = on (collect s b)
step l place (opens name a) b = opened l place name a b
step l place (closes name) b = closed place name b

-- what events make of it, one after another, up to the first refusal, the builder's or the reader's
unfoldable pub built : Limits → Events → Builder → Outcome
built l done b = on b
built l (broken refusal) b = refused refusal
built l (next place event more) b =
    elim (step l place event b) [ on b' ↦ built l more b' | refused refusal ↦ refused refusal ]

-- the builder before the first event
abbrev pub empty : Builder
empty =
    record {
      stack = [];
      collected = [];
      collecting = false;
      current = record { composite = None; enum = None; message = None; group = None };
      schema = record { package_name = []; id = 0; version = 0; items = [] };
    }

-- what a whole document gives: a schema or a refusal
pub data Whole : Type 0 where
  accepted : Schema → Whole
  refused_by : Refusal → Whole

-- at the end no element is open; else 31
unfoldable pub ending : List ℕ → Outcome → Whole
ending doc (on b) =
    pick (ltb 0 (length b.stack)) (refused_by (OpenElements (length doc))) (accepted b.schema)
ending doc (refused refusal) = refused_by refusal

-- what a document gives as it is read
abbrev pub reading : Limits → List ℕ → Whole
reading l doc = ending doc (built l (events doc) empty)

-- 1, 2, 10, then what reading gives; records and bytes are the lengths of the two buffers
unfoldable pub answer_of : List ℕ → ℕ → ℕ → Whole
answer_of doc records bytes =
    let high = scan is_ascii doc 0 in
    pick (ltb max_document (length doc)) (refused_by TooLong)
    (pick (ltb records min_records or ltb bytes min_text) (refused_by NoWorkSpace)
    (pick (ltb high (length doc)) (refused_by (NotAscii high))
    (reading highest doc)))
