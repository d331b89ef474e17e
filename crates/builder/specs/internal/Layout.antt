-- How the builder lies in the state, the records and the text, and what each step keeps.
use Rattle.std.specs.Prelude.{◌≡◌, Bool, false, List, [], ◌∷◌, ℕ, zero, suc, ◌+◌, ◌*◌, ◌-◌, ◌≤◌, length, get_or, take, drop, set, Option, Some, None, Result, Ok, Err, IfOk}
use Rattle.std.specs.Borrow.{Bor, MutBor}
use Rattle.std.proofs.lemmas.List.Edits.{sets}
use Rattle.texts.specs.Text.{ascii, piece, same}
use Rattle.texts.specs.Trim.{TrimmedTo}
use Rattle.texts.specs.declared.Range.{Range}
use Rattle.refusals.specs.declared.Refusal.{Refusal}
use Rattle.elements.specs.Elements.{element_of}
use Rattle.elements.specs.Keys.{keys_of}
use Rattle.tags.specs.internal.Noting.{NotedBy}
pub use Rattle.saxlite.specs.internal.Moving.{Tagged}
use Rattle.builder.specs.Limits.{Limits, max_items, max_depth, max_document, min_records, min_text}
use Rattle.builder.specs.Builder.{Builder, Outcome, on, refused, top, rest}
use Rattle.entities.specs.Entities.{decoded}
use Rattle.model.specs.Schema.{a_value}
use Rattle.model.specs.Search.{last_under}
use Rattle.model.specs.internal.Store.{entry_at, words_of, item_of, schema_of}
use Rattle.model.specs.declared.Entry.{Entry}
use Rattle.model.specs.declared.Model.{Model}
use Rattle.builder.specs.declared.state.State.{State}
use Rattle.builder.specs.declared.state.Usage.{Usage}
use Rattle.builder.specs.declared.work.Tag.{Tag}
use Rattle.builder.specs.declared.work.Work.{Work}

-- ---- the open names: a position in the document and a length each, two words of the record buffer

-- where they begin, behind the items
abbrev pub names_from : ℕ
names_from = 15 * max_items

-- where the k-th lies
abbrev pub stack_at : ℕ → ℕ
stack_at k = names_from + 2 * k

-- the k-th, from 0 on
abbrev pub name_at : List ℕ → List ℕ → ℕ → List ℕ
name_at rec doc k = piece doc (get_or rec (stack_at k) 0) (get_or rec (stack_at k + 1) 0)

-- the first k of them, the innermost first
unfoldable pub stack_of : ℕ → List ℕ → List ℕ → List (List ℕ)
stack_of zero rec doc = []
stack_of (suc k) rec doc = name_at rec doc k ∷ stack_of k rec doc

-- whether the name below the innermost one is composite
abbrev pub parent_composite : Builder → Bool
parent_composite b = same (top (rest b.stack)) (ascii "composite")

-- ---- the builder

-- the model of a state
abbrev pub model_in : State → Model
model_in s = record { head = s.head; count = s.usage.items }

-- the builder of a state, by what the document and the two buffers hold
abbrev pub builder_of : State → List ℕ → List ℕ → List ℕ → Builder
builder_of s doc rec text =
    record {
      stack = stack_of s.usage.depth rec doc;
      collected = piece text s.usage.collected_from (s.usage.collected_to - s.usage.collected_from);
      collecting = s.current.collecting;
      current =
          record {
            composite = s.current.composite;
            enum = s.current.enumeration;
            message = s.current.message;
            group = s.current.group;
          };
      schema = schema_of (model_in s) rec text;
    }

-- the builder that a state stands for, with the document and the buffers of w
abbrev pub builder_in : Work → State → Builder
builder_in w s = builder_of s w.doc.now w.records.now w.text.now

-- the state before the first event
abbrev pub initial : State
initial =
    record {
      usage =
          record {
            items = 0;
            depth = 0;
            collected_from = 0;
            collected_to = 0;
            taken_from = min_text;
          };
      current =
          record {
            collecting = false;
            composite = None;
            enumeration = None;
            message = None;
            group = None;
          };
      head = record { name = 0; len = 0; id = 0; version = 0 };
    }

-- a state with a name pushed
abbrev pub pushed : State → State
pushed s = record s { usage = record s.usage { depth = s.usage.depth + 1 } }

-- and with a name popped
abbrev pub popped : State → State
popped s = record s { usage = record s.usage { depth = s.usage.depth - 1 } }

-- the records with the position and the length of a name, as the d-th
abbrev pub name_put : List ℕ → ℕ → ℕ → ℕ → List ℕ
name_put rec d from n = set (set rec (stack_at d) from) (stack_at d + 1) n

-- what is lent, before anything is written
abbrev pub lent : Limits → Bor (List ℕ) → MutBor (List ℕ) → MutBor (List ℕ) → Work
lent limits doc records text =
    record { limits = limits; doc = doc; records = records; text = text }

-- bytes of the document, and these as text
abbrev pub doc_piece : Work → ℕ → ℕ → List ℕ
doc_piece w from len = piece w.doc.now from len

abbrev pub text_at : Work → ℕ → ℕ → List ℕ
text_at w from len = decoded (doc_piece w from len)

-- the same document and text, with other records
abbrev pub over : Work → List ℕ → Work
over w rec = record w { records = record w.records { now = rec } }

-- the buffers with a name as the innermost one
abbrev pub with_name : Work → State → ℕ → ℕ → Work
with_name w s from n = over w (name_put w.records.now s.usage.depth from n)

-- the same document and records, with another text
abbrev pub texted : Work → List ℕ → Work
texted w t = record w { text = record w.text { now = t } }

-- an entry with a range of the text as its second text
abbrev pub valued : Range → Entry → Entry
valued r e = record e { second = r.from; slen = r.len }

-- the records with another second text for the item at a position, if there is one
abbrev pub valued_at : Option ℕ → Range → List ℕ → List ℕ
valued_at None r rec = rec
valued_at (Some i) r rec = sets rec (15 * i) (words_of (valued r (entry_at rec i)))

-- the buffers with a range as the value of an enum's last value, if it has one
abbrev pub with_last_value : Work → State → ℕ → Range → Work
with_last_value w s owner r =
    over w
    (valued_at (last_under a_value owner (builder_in w s).schema.items) r w.records.now)

-- the range of the collected text, trimmed
abbrev pub IsCollected : Work → State → Range → Type 0
IsCollected w s r =
    TrimmedTo w.text.now s.usage.collected_from (s.usage.collected_to - s.usage.collected_from) r

-- the two buffers are long enough for what is read of a document
pub record LongEnough (rec text : List ℕ) : Type 0 where
  pub records : min_records ≤ length rec
  pub bytes : min_text ≤ length text

-- and the document is not too long
pub record Suffice (doc rec text : List ℕ) : Type 0 where
  pub document : length doc ≤ max_document
  pub records : min_records ≤ length rec
  pub bytes : min_text ≤ length text

-- two texts agree where the text buffer is in use: below low, and from high on
pub record Alike (low high : ℕ) (text t : List ℕ) : Type 0 where
  pub below : take low t ≡ take low text
  pub above : drop high t ≡ drop high text

-- the numbers of a usage fit the two buffers
pub record Within (u : Usage) : Type 0 where
  pub deep : u.depth ≤ max_depth
  pub many : u.items ≤ max_items
  pub begun : u.collected_from ≤ u.collected_to
  pub apart : u.collected_to ≤ u.taken_from
  pub top : u.taken_from ≤ min_text

-- what every step keeps of the state and the buffers. `stable` says that the schema is the same in
-- every text that is alike, so nothing has to be said of where the texts of each item lie
pub record Intact (w : Work) (s : State) : Type 0 where
  pub within : Within s.usage
  pub lent : LongEnough w.records.now w.text.now
  pub stable : (t : List ℕ) → Alike s.usage.collected_to s.usage.taken_from w.text.now t
      → schema_of (model_in s) w.records.now t ≡ schema_of (model_in s) w.records.now w.text.now

-- the same of a document that is not too long
pub record Sound (w : Work) (s : State) : Type 0 where
  pub within : Within s.usage
  pub lent : Suffice w.doc.now w.records.now w.text.now
  pub stable : (t : List ℕ) → Alike s.usage.collected_to s.usage.taken_from w.text.now t
      → schema_of (model_in s) w.records.now t ≡ schema_of (model_in s) w.records.now w.text.now

-- how many bytes of the text buffer are in use
abbrev pub used_by : State → ℕ
used_by s = s.usage.collected_to + (min_text - s.usage.taken_from)

-- what a step asks: n bytes of the text buffer are free
pub record RoomFor (w : Work) (s : State) (n : ℕ) : Type 0 where
  pub intact : Intact w s
  pub room : s.usage.collected_to + n ≤ s.usage.taken_from

-- the same of a document that is not too long
pub record Ready (w : Work) (s : State) (n : ℕ) : Type 0 where
  pub sound : Sound w s
  pub room : s.usage.collected_to + n ≤ s.usage.taken_from

-- what is known of a tag that was read: where it lies, its element, and what was noted of it
pub record IsTag (doc : List ℕ) (tag : Tag) : Type 0 where
  pub tagged : Tagged doc tag.attributes tag.next
  pub named : tag.element ≡ element_of (piece doc tag.name.from tag.name.len)
  pub noted : NotedBy (keys_of tag.element) doc tag.attributes tag.noted
  pub inside : tag.name.from + tag.name.len ≤ length doc

-- what opening asks of it: its name need only end where a document may still reach
pub record KnownTag (doc : List ℕ) (tag : Tag) : Type 0 where
  pub tagged : Tagged doc tag.attributes tag.next
  pub named : tag.element ≡ element_of (piece doc tag.name.from tag.name.len)
  pub noted : NotedBy (keys_of tag.element) doc tag.attributes tag.noted
  pub inside : tag.name.from + tag.name.len ≤ max_document

-- how many bytes of the text buffer a tag may take
abbrev pub room : Tag → ℕ
room tag = tag.next - tag.attributes

-- an entry's item is the same in every text that is alike
pub record Steady (low high : ℕ) (text : List ℕ) (e : Entry) : Type 0 where
  pub item : (t : List ℕ) → Alike low high text t → item_of t e ≡ item_of text e

-- the limits, the document and the two buffers are the same ones, whatever the buffers hold
pub record Same (w w' : Work) : Type 0 where
  pub limits : w'.limits ≡ w.limits
  pub doc : w'.doc ≡ w.doc
  pub records : w'.records.ghost_name ≡ w.records.ghost_name
  pub text : w'.text.ghost_name ≡ w.text.ghost_name

-- the outcome that a step's result stands for, with the document and the buffers of w
abbrev pub outcome : Work → Result State Refusal → Outcome
outcome w (Ok s) = on (builder_in w s)
outcome w (Err r) = refused r

-- the result r, with w', is the outcome o; its state is intact, and sound where the document is not
-- too long, with at most n more bytes in use
pub record After (o : Outcome) (w : Work) (s : State) (n : ℕ) (w' : Work) (r : Result State Refusal)
    : Type 0
  where
    pub is : outcome w' r ≡ o
    pub intact : IfOk r (λ s'. Intact w' s')
    pub sound : length w.doc.now ≤ max_document → IfOk r (λ s'. Sound w' s')
    pub used : IfOk r (λ s'. used_by s' ≤ used_by s + n)
    pub same : Same w w'

-- that, where o is what f makes of the builder: the contract of a step
abbrev pub Makes : (Builder → Outcome) → Work → State → ℕ → Work → Result State Refusal → Type 0
Makes f w s n w' r = After (f (builder_in w s)) w s n w' r

-- and of a step that refuses nothing
abbrev pub Turns : (Builder → Builder) → Work → State → ℕ → Work → State → Type 0
Turns f w s n w' s' = After (on (f (builder_in w s))) w s n w' (Ok s')
