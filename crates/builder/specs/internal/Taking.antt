-- Taking texts into the text buffer, and reading numbers.
use Rattle.std.specs.Prelude.{◌≡◌, Bool, List, ℕ, ◌+◌, ◌-◌, ◌≤◌, length, Option, Some, None, Result, Ok, Err}
use Rattle.texts.specs.Text.{piece}
use Rattle.texts.specs.declared.Range.{Range}
use Rattle.tags.specs.Attributes.{raw_length}
use Rattle.saxlite.specs.Event.{Attributes, value_in, attributes_in}
use Rattle.elements.specs.Keys.{Keys}
use Rattle.tags.specs.internal.Noting.{noted_number, noted_name, noted_second, noted_encoding, NotedBy}
use Rattle.tags.specs.declared.noting.Notes.{Notes}
use Rattle.builder.specs.declared.work.Found.{Found}
use Rattle.refusals.specs.declared.Refusal.{Refusal}
use Rattle.refusals.specs.declared.Refusal.TheVariants.{BadNumber}
use Rattle.model.specs.Schema.{Item}
use Rattle.numbers.specs.Numbers.{number_of}
use Rattle.builder.specs.Limits.{Limits, max_document}
use Rattle.builder.specs.Builder.{Builder, Outcome, or_empty, is_given, added}
use Rattle.model.specs.internal.Store.{item_of}
use Rattle.builder.specs.internal.Layout.{Alike, Steady, builder_in, room, Intact, Sound, RoomFor, Ready, Tagged, Same, Makes, parent_composite, doc_piece}
use Rattle.model.specs.declared.Entry.{Entry}
use Rattle.builder.specs.declared.take.Draft.{Draft}
use Rattle.builder.specs.declared.state.State.{State}
use Rattle.builder.specs.declared.work.Tag.{Tag}
use Rattle.builder.specs.declared.work.Work.{Work}

-- the value that was found is decoded at r.from, which is its raw length below high
pub record TakenAt (found : Option Range) (doc text : List ℕ) (high : ℕ) (r : Range)
    (text' : List ℕ)
    : Type 0
  where
    pub start : r.from + raw_length found ≡ high
    pub is : piece text' r.from r.len ≡ or_empty (value_in doc found)
    pub within : r.len ≤ raw_length found
    pub alike : (a : ℕ) → a ≤ r.from → Alike a high text text'
    pub long : length text' ≡ length text

-- at most the n bytes from low on have changed
pub record Scratched (low n : ℕ) (text text' : List ℕ) : Type 0 where
  pub alike : (high : ℕ) → low + n ≤ high → Alike low high text text'
  pub long : length text' ≡ length text

-- e is an entry of the item, its texts taken below high; n is the raw length of them all
pub record Made (it : Item) (n high : ℕ) (text : List ℕ) (e : Entry) (text' : List ℕ) : Type 0
  where
    pub is : item_of text' e ≡ it
    pub steady : (a : ℕ) → Steady a e.encoding text' e
    pub start : e.encoding + n ≡ high
    pub alike : (a : ℕ) → a ≤ e.encoding → Alike a high text text'
    pub long : length text' ≡ length text

-- r is the number in a value that was found; what was decoded for it lies from low on
pub record ReadAt (found : Option Range) (doc : List ℕ) (low : ℕ) (text : List ℕ) (r : Option ℕ)
    (text' : List ℕ)
    : Type 0
  where
    pub is : r ≡ number_of (value_in doc found)
    pub scratch : Scratched low (raw_length found) text text'

-- a draft with a name and a second text
abbrev pub drafted : ℕ → ℕ → ℕ → Option Range → Option Range → Draft
drafted kind owner number name second =
    record {
      kind = kind;
      owner = owner;
      number = number;
      given = None;
      name = name;
      second = second;
      encoding = None;
    }

-- the item that a draft stands for
abbrev pub drafted_item : Draft → List ℕ → Item
drafted_item d doc =
    record {
      kind = d.kind;
      owner = d.owner;
      name = or_empty (value_in doc d.name);
      second = or_empty (value_in doc d.second);
      number = d.number;
      given = is_given (value_in doc d.given);
      encoding = or_empty (value_in doc d.encoding);
    }

-- and the raw length of its texts
abbrev pub draft_length : Draft → ℕ
draft_length d = raw_length d.name + raw_length d.second + raw_length d.encoding

-- an entry of its item, with its texts
abbrev pub MadeOf : Draft → List ℕ → ℕ → List ℕ → Entry → List ℕ → Type 0
MadeOf d doc high text e text' = Made (drafted_item d doc) (draft_length d) high text e text'

-- ---- with the document and the buffers

-- the ranges of the values that are noted
abbrev pub found_in : Notes → Found
found_in n = record { number = noted_number n; name = noted_name n; second = noted_second n; encoding = noted_encoding n }

-- f has those of a tag
pub record Finds (tag : Tag) (f : Found) : Type 0 where
  pub is : f ≡ found_in tag.noted

-- what reading a number asks: the state is intact, and the tag has room for the text
unfoldable pub CanRead : Work → State → Tag → Option Range → Type 0
CanRead w s tag found = RoomFor w s (room tag) × (raw_length found ≤ room tag)

-- what adding the item of a draft asks, and what it gives
unfoldable pub CanAdd : Work → State → Tag → Draft → Type 0
CanAdd w s tag d = RoomFor w s (room tag) × (draft_length d ≤ room tag)

abbrev pub Added : Work → Tag → State → Draft → Work → Result State Refusal → Type 0
Added w tag s d w' r =
    Makes (added w.limits tag.place (drafted_item d w.doc.now)) w s (room tag) w' r

-- what putting an entry asks: its texts lie in what was free, from its encoding on
pub record CanPut (w : Work) (s : State) (e : Entry) : Type 0 where
  pub intact : Intact w s
  pub steady : Steady s.usage.collected_to e.encoding w.text.now e
  pub low : s.usage.collected_to ≤ e.encoding
  pub high : e.encoding ≤ s.usage.taken_from

-- and what it gives
abbrev pub Put : Work → ℕ → State → Entry → Work → Result State Refusal → Type 0
Put w place s e w' r =
    Makes (added w.limits place (item_of w.text.now e)) w s (s.usage.taken_from - e.encoding) w' r

-- a tag's attributes
abbrev pub attributes_of : Work → Tag → Attributes
attributes_of w tag = attributes_in w.doc.now tag.attributes

-- a number, or 32 where it is invalid
abbrev pub number_or_refused : ℕ → Option ℕ → Result ℕ Refusal
number_or_refused place (Some n) = Ok n
number_or_refused place None = Err (BadNumber place)

-- r is a tag's number, or 32; the builder is the same, and n bytes of the text buffer are free; the
-- state is sound where the document is not too long
pub record NumberRead (place n : ℕ) (found : Option Range) (w : Work) (s : State) (w' : Work)
    (r : Result ℕ Refusal)
    : Type 0
  where
    pub is : r ≡ number_or_refused place (number_of (value_in w.doc.now found))
    pub room : RoomFor w' s n
    pub ready : length w.doc.now ≤ max_document → Ready w' s n
    pub builder : builder_in w' s ≡ builder_in w s
    pub same : Same w w'

-- what opening an element asks: the tag is read, its texts have room, and these names were noted
pub record CanOpen (k : Keys) (w : Work) (s : State) (tag : Tag) : Type 0 where
  pub room : RoomFor w s (room tag)
  pub tagged : Tagged w.doc.now tag.attributes tag.next
  pub noted : NotedBy k w.doc.now tag.attributes tag.noted

-- ---- the four demands, of a document that is not too long

unfoldable pub Reads : Work → State → Tag → Option Range → Type 0
Reads w s tag found = Ready w s (room tag) × (raw_length found ≤ room tag)

unfoldable pub Adds : Work → State → Tag → Draft → Type 0
Adds w s tag d = Ready w s (room tag) × (draft_length d ≤ room tag)

pub record Puts (w : Work) (s : State) (e : Entry) : Type 0 where
  pub sound : Sound w s
  pub steady : Steady s.usage.collected_to e.encoding w.text.now e
  pub low : s.usage.collected_to ≤ e.encoding
  pub high : e.encoding ≤ s.usage.taken_from

pub record ReadyToOpen (k : Keys) (w : Work) (s : State) (tag : Tag) : Type 0 where
  pub ready : Ready w s (room tag)
  pub tagged : Tagged w.doc.now tag.attributes tag.next
  pub noted : NotedBy k w.doc.now tag.attributes tag.noted

-- ---- what opening gives

-- a tag's local name
abbrev pub name_of : Work → Tag → List ℕ
name_of w tag = doc_piece w tag.name.from tag.name.len

-- a definition of opening: by the limits, and a tag's place and attributes
abbrev pub Opening : Type 0
Opening = Limits → ℕ → Attributes → Builder → Outcome

-- one that asks besides whether the parent is a composite
abbrev pub inside : (Limits → ℕ → Bool → Attributes → Builder → Outcome) → Opening
inside f l place a b = f l place (parent_composite b) a b

-- one that asks besides for the tag's name
abbrev pub of_name : (Limits → ℕ → List ℕ → Attributes → Builder → Outcome) → List ℕ → Opening
of_name f name l place a b = f l place name a b

-- r is what such a definition makes of the builder: the contract of its step
abbrev pub OpensBy : Opening → Work → State → Tag → Work → Result State Refusal → Type 0
OpensBy f w s tag w' r =
    Makes (f w.limits tag.place (attributes_of w tag)) w s (room tag) w' r
