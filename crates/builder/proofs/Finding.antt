-- Laws of what was found in a tag: its values, the room for them, and the items made of them.
use Rattle.texts.specs.declared.Range.{Range}
use Rattle.std.proofs.Common.{Option, Some, None, Result, ◌≡◌, refl, ap, ◌∙◌, true, List, [], ◌∷◌, ℕ, ◌≤◌, arith}
use Rattle.texts.specs.Text.{ascii, same}
use Rattle.refusals.specs.declared.Refusal.{Refusal}
use Rattle.builder.specs.declared.work.Found.{Found}
use Rattle.tags.specs.Attributes.{attribute_at, raw_length}
use Rattle.elements.specs.Keys.{Keys, schema_keys, field_keys, type_keys, enum_keys}
use Rattle.builder.specs.Builder.{plain_item, type_item, text_in}
use Rattle.builder.specs.internal.Layout.{room, Intact, RoomFor}
use Rattle.builder.specs.internal.Taking.{attributes_of, NumberRead, CanOpen, Finds, CanRead, CanAdd, drafted, drafted_item}
use Rattle.builder.specs.declared.state.Current.{Current}
use Rattle.builder.specs.declared.state.State.{State}
use Rattle.builder.specs.declared.take.Draft.{Draft}
use Rattle.builder.specs.declared.work.Tag.{Tag}
use Rattle.builder.specs.declared.work.Work.{Work}
use Rattle.builder.proofs.Alikes.{tag-room, tag_one}

-- ---- a state with other things current, or with an empty text

pub ready-current : {w : Work} {s : State} {n : ℕ} {c : Current} → RoomFor w s n → RoomFor w (record s { current = c }) n
ready-current r =
    let k = r.intact in
    record {
      intact = record { within = k.within; lent = k.lent; stable = k.stable };
      room = r.room;
    }

abbrev pub currently : State → Current → State
currently s c = record s { current = c }

abbrev pub composite-now : State → Current
composite-now s = record s.current { composite = Some s.usage.items }

abbrev pub enum-now : State → Current
enum-now s = record s.current { enumeration = Some s.usage.items }

abbrev pub message-now : State → Current
message-now s = record s.current { message = Some s.usage.items }

abbrev pub group-now : State → Current
group-now s = record s.current { group = Some s.usage.items }

abbrev pub value-now : State → Current
value-now s = record s.current { collecting = true }

abbrev pub emptied : State → Current → State
emptied s c = record s { usage = record s.usage { collected_from = s.usage.collected_to }; current = c }

pub sound-emptied : {w : Work} {s : State} {c : Current} → Intact w s → Intact w (emptied s c)
sound-emptied k = record { within = record { deep = k.within.deep; many = k.within.many; begun = omega arith; apart = k.within.apart; top = k.within.top }; lent = k.lent; stable = k.stable }

pub ready-emptied : {w : Work} {s : State} {n : ℕ} {c : Current} → RoomFor w s n → RoomFor w (emptied s c) n
ready-emptied r = record { intact = sound-emptied r.intact; room = r.room }

-- ---- what was found in a tag

module _ {k : Keys} {w : Work} {s : State} {tag : Tag} (o : CanOpen k w s tag) {f : Found} (e : Finds tag f) where
  abbrev pub at : List ℕ → Option Range
  at key = attribute_at w.doc.now tag.attributes key

  pub number-said : f.number ≡ at k.number
  number-said = ap (λ (r : Found). r.number) e.is ∙ o.noted.number

  pub name-said : f.name ≡ at k.name
  name-said = ap (λ (r : Found). r.name) e.is ∙ o.noted.name

  pub second-said : f.second ≡ at k.second
  second-said = ap (λ (r : Found). r.second) e.is ∙ o.noted.second

  pub encoding-said : f.encoding ≡ at k.encoding
  encoding-said = ap (λ (r : Found). r.encoding) e.is ∙ o.noted.encoding

  -- it takes no more than the tag
  pub number-room : CanRead w s tag f.number
  unfolding CanRead
  number-room = (o.room, rw number-said (tag_one w.doc.now tag.attributes tag.next o.tagged k.number))

  pub name-room : raw_length f.name ≤ room tag
  name-room = rw name-said (tag_one w.doc.now tag.attributes tag.next o.tagged k.name)

  pub second-room : raw_length f.second ≤ room tag
  second-room = rw second-said (tag_one w.doc.now tag.attributes tag.next o.tagged k.second)

-- by element: `search` finds these by the names
module _ {w : Work} {s : State} {tag : Tag} {f : Found} where
  pub type-reads : CanOpen type_keys w s tag → Finds tag f → CanRead w s tag f.number
  type-reads o e = number-room o e

  pub field-reads : CanOpen field_keys w s tag → Finds tag f → CanRead w s tag f.number
  field-reads o e = number-room o e

  pub id-reads : CanOpen schema_keys w s tag → Finds tag f → CanRead w s tag f.number
  id-reads o e = number-room o e

  pub version-reads : CanOpen schema_keys w s tag → Finds tag f → {w₁ : Work} → RoomFor w₁ s (room tag) → CanRead w₁ s tag f.second
  unfolding CanRead
  version-reads o e r = (r, second-room o e)

-- what is ready once a number was read
pub number-ready : {place n : ℕ} {found : Option Range} {w w₁ : Work} {s : State} {x : Result ℕ Refusal} → NumberRead place n found w s w₁ x → RoomFor w₁ s n
number-ready m = m.room

pub open-ready : {k : Keys} {w : Work} {s : State} {tag : Tag} → CanOpen k w s tag → RoomFor w s (room tag)
open-ready o = o.room

-- a type or a member, of what was found
abbrev pub typed : Found → ℕ → ℕ → ℕ → Draft
typed f kind owner n = record { kind = kind; owner = owner; number = n; given = f.number; name = f.name; second = f.second; encoding = f.encoding }

module _ {w : Work} {s : State} {tag : Tag} {f : Found} (o : CanOpen type_keys w s tag) (e : Finds tag f) where
  pub type-adds : {w₁ : Work} → RoomFor w₁ s (room tag) → (kind owner v : ℕ) → CanAdd w₁ s tag (typed f kind owner v)
  unfolding same CanAdd
  type-adds r kind owner v = (r, rw (name-said o e, second-said o e, encoding-said o e) (omega (arith, tag-room w.doc.now tag.attributes tag.next o.tagged (ascii "name" ∷ ascii "primitiveType" ∷ ascii "characterEncoding" ∷ []) tt)))

  pub type-drafted : (kind owner n : ℕ) → drafted_item (typed f kind owner n) w.doc.now ≡ type_item kind owner (attributes_of w tag) n
  type-drafted kind owner n = simp (number-said o e, name-said o e, second-said o e, encoding-said o e)

module _ {w : Work} {s : State} {tag : Tag} {f : Found} (o : CanOpen field_keys w s tag) (e : Finds tag f) (kind owner id : ℕ) where
  pub named-adds : {w₁ : Work} {t : State} → RoomFor w₁ t (room tag) → CanAdd w₁ t tag (drafted kind owner id f.name None)
  unfolding CanAdd
  named-adds r = (r, omega (arith, name-room o e))

  pub field-adds : {w₁ : Work} {t : State} → RoomFor w₁ t (room tag) → CanAdd w₁ t tag (drafted kind owner id f.name f.second)
  unfolding same CanAdd
  field-adds r = (r, rw (name-said o e, second-said o e) (omega (arith, tag-room w.doc.now tag.attributes tag.next o.tagged (ascii "name" ∷ ascii "type" ∷ []) tt)))

module _ {w : Work} {s : State} {tag : Tag} {f : Found} (o : CanOpen enum_keys w s tag) (e : Finds tag f) (kind owner id : ℕ) where
  pub enum-adds : {w₁ : Work} {t : State} → RoomFor w₁ t (room tag) → CanAdd w₁ t tag (drafted kind owner id f.name f.second)
  unfolding same CanAdd
  enum-adds r = (r, rw (name-said o e, second-said o e) (omega (arith, tag-room w.doc.now tag.attributes tag.next o.tagged (ascii "name" ∷ ascii "encodingType" ∷ []) tt)))

module _ {w : Work} {s : State} {tag : Tag} {f : Found} {d : Draft} {kind owner id : ℕ} where
  pub named-drafted : CanOpen field_keys w s tag → Finds tag f → d ≡ drafted kind owner id f.name None → drafted_item d w.doc.now ≡ plain_item kind owner (text_in (attributes_of w tag) "name") [] id
  named-drafted o e q = rw (q, name-said o e) refl

  pub field-drafted : CanOpen field_keys w s tag → Finds tag f → d ≡ drafted kind owner id f.name f.second → drafted_item d w.doc.now ≡ plain_item kind owner (text_in (attributes_of w tag) "name") (text_in (attributes_of w tag) "type") id
  field-drafted o e q = rw (q, name-said o e, second-said o e) refl

  pub enum-drafted : CanOpen enum_keys w s tag → Finds tag f → d ≡ drafted kind owner id f.name f.second → drafted_item d w.doc.now ≡ plain_item kind owner (text_in (attributes_of w tag) "name") (text_in (attributes_of w tag) "encodingType") id
  enum-drafted o e q = rw (q, name-said o e, second-said o e) refl
