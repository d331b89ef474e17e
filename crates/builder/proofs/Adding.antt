-- Laws of numbers read and of items added.
use Rattle.std.proofs.Common.{Option, Some, None, Result, Ok, Err, IfOk, ◌≡◌, refl, sym, ap, ◌∙◌, List, [], ◌∷◌, ◌++◌, ℕ, ◌+◌, ◌*◌, ◌-◌, ◌≤◌, ◌<◌, arith, length, le-leb}
use lib.ListN.{get_or-eq_default}
use lib.Seq.{sets, length-sets}
use borrow.Author.Tests.{lt-leb}
use Rattle.texts.specs.Text.{piece}
use Rattle.texts.specs.declared.Range.{Range}
use Rattle.refusals.specs.declared.Refusal.{Refusal}
use Rattle.refusals.specs.declared.Refusal.TheVariants.{TooManyItems}
use Rattle.tags.specs.Attributes.{raw_length}
use Rattle.model.specs.Schema.{Item, Schema, item_at, no_item}
use Rattle.builder.specs.Builder.{Outcome, on, refused, added, with_items}
use Rattle.model.specs.internal.Store.{entry_at, words_of, item_of, items_of, schema_of}
use Rattle.builder.specs.Limits.{max_items, min_text}
use Rattle.builder.specs.internal.Layout.{model_in, builder_in, stack_of, over, texted, initial, Alike, Intact, Sound, RoomFor, Steady, Same, After, outcome, used_by, LongEnough, Suffice}
use Rattle.builder.specs.internal.Taking.{Made, ReadAt, NumberRead, number_or_refused}
use Rattle.model.specs.declared.Entry.{Entry}
use Rattle.builder.specs.declared.state.State.{State}
use Rattle.builder.specs.declared.work.Work.{Work}
use Rattle.model.proofs.Records.{items-put, length-items, get_or-items}
use Rattle.builder.proofs.Sounding.{suffice-long, intact-sound, room-ready}
use Rattle.builder.proofs.Stacking.{stack-put}
use Rattle.builder.proofs.Alikes.{alike_self, alike-wider, builder-alike, sound-alike}

pub same_self : {w : Work} → Same w w
same_self = record { limits = refl; doc = refl; records = refl; text = refl }

pub same-trans : {u v w : Work} → Same u v → Same v w → Same u w
same-trans p q = record { limits = q.limits ∙ p.limits; doc = q.doc ∙ p.doc; records = q.records ∙ p.records; text = q.text ∙ p.text }

-- ---- the outcome of a step

if-ok : {P Q : State → Type 0} (r : Result State Refusal) → ((s : State) → P s → Q s) → IfOk r P → IfOk r Q
if-ok (Ok s) f p = f s p
if-ok (Err e) f p = p

pub after-of : {o : Outcome} {w : Work} {s : State} {n : ℕ} {w' : Work} {r : Result State Refusal} → outcome w' r ≡ o → IfOk r (λ x. Intact w' x) → IfOk r (λ x. used_by x ≤ used_by s + n) → Same w w' → After o w s n w' r
after-of {r = r} f k u m = record { is = f; intact = k; sound = λ h. if-ok r (λ x i. intact-sound i (rw m.doc h)) k; used = u; same = m }

-- a refusal, and a state that stays
pub after-refused : {o : Outcome} {w : Work} {s : State} {n : ℕ} {q : Refusal} → refused q ≡ o → After o w s n w (Err q)
after-refused f = after-of f tt tt same_self

-- another state over the same buffers
pub after_turned : {o : Outcome} {w : Work} {s t : State} {n : ℕ} → on (builder_in w t) ≡ o → Intact w t → used_by t ≤ used_by s + n → After o w s n w (Ok t)
after_turned f k u = after-of f k u same_self

pub after_same : {o : Outcome} {w : Work} {s : State} {n : ℕ} → on (builder_in w s) ≡ o → Intact w s → After o w s n w (Ok s)
after_same f k = after_turned f k (omega arith)

-- of another form of the same outcome, of a state that uses as much text, and of more space
pub after-as : {o p : Outcome} {w : Work} (s : State) {t : State} {n m : ℕ} {w' : Work} {r : Result State Refusal} → o ≡ p → used_by t ≡ used_by s → n ≤ m → After o w t n w' r → After p w s m w' r
after-as s {r = r} e u h a =
    after-of (a.is ∙ e) a.intact (if-ok r (λ x y. omega (arith, y)) a.used) a.same

-- where the buffers had been written to before
pub after-then : {o : Outcome} {u w : Work} {s : State} {n : ℕ} {w' : Work} {r : Result State Refusal} → Same u w → After o w s n w' r → After o u s n w' r
after-then p a = after-of a.is a.intact a.used (same-trans p a.same)

-- ---- the first state

pub initial_intact : {w : Work} → LongEnough w.records.now w.text.now → Intact w initial
unfolding schema_of items_of
initial_intact h =
    record {
      within =
          record { deep = omega arith; many = omega arith; begun = omega arith; apart = omega arith; top = omega arith };
      lent = h;
      stable = λ x a. refl;
    }

pub initial_sound : {w : Work} → Suffice w.doc.now w.records.now w.text.now → Sound w initial
initial_sound h = intact-sound (initial_intact (suffice-long h)) h.document

-- n bytes of text are free where so many are not in use
pub ready-used : {w : Work} {s : State} {n : ℕ} → Intact w s → used_by s + n ≤ min_text → RoomFor w s n
ready-used k h = record { intact = k; room = omega (arith, k.within.top, h) }

-- ---- a number

module _ {place n : ℕ} {found : Option Range} {w : Work} {s : State} {x : Option ℕ} {t : List ℕ} (q : RoomFor w s n) (h : raw_length found ≤ n) (p : ReadAt found w.doc.now s.usage.collected_to w.text.now x t) where
  read : {r : Result ℕ Refusal} → r ≡ number_or_refused place x → NumberRead place n found w s (texted w t) r
  read e =
      let a : Alike s.usage.collected_to s.usage.taken_from w.text.now t = p.scratch.alike s.usage.taken_from (omega (arith, q.room)) in
      let z : RoomFor (texted w t) s n = record { intact = sound-alike w s t q.intact a p.scratch.long; room = q.room } in
      record {
        is = e ∙ ap (number_or_refused place) p.is;
        room = z;
        ready = room-ready z;
        builder = builder-alike w s t q.intact a;
        same = record { limits = refl; doc = refl; records = refl; text = refl };
      }

  pub number-some : {v : ℕ} → x ≡ Some v → NumberRead place n found w s (texted w t) (Ok v)
  number-some e = read (sym (ap (number_or_refused place) e))

  pub number-none : x ≡ None → NumberRead place n found w s (texted w t) (number_or_refused place None)
  number-none e = read (sym (ap (number_or_refused place) e))

-- ---- an item added

pub counted-items : (w : Work) (s : State) → length (builder_in w s).schema.items ≡ s.usage.items
unfolding schema_of
counted-items w s = length-items s.usage.items w.records.now w.text.now

module _ (w : Work) (s : State) (place : ℕ) (e : Entry) (k : Intact w s) where
  pub put-full : w.limits.items ≤ s.usage.items → (it : Item) → refused (TooManyItems place) ≡ added w.limits place it (builder_in w s)
  unfolding added
  put-full c it = rw (counted-items w s, le-leb w.limits.items s.usage.items c)

  module _ (st : Steady s.usage.collected_to e.encoding w.text.now e) (h : s.usage.collected_to ≤ e.encoding) (g : e.encoding ≤ s.usage.taken_from) (c : s.usage.items < w.limits.items) (m : w.limits.items ≤ max_items) where
    abbrev after : State
    after = record s { usage = record s.usage { items = s.usage.items + 1; taken_from = e.encoding } }

    abbrev rec' : List ℕ
    rec' = sets w.records.now (15 * s.usage.items) (words_of e)

    -- the schema with the item, in every text that is alike
    schema-now : (t : List ℕ) → Alike s.usage.collected_to e.encoding w.text.now t → schema_of (model_in after) rec' t ≡ with_items ((builder_in w s).schema.items ++ (item_of w.text.now e ∷ [])) (builder_in w s).schema
    unfolding schema_of
    schema-now t a =
        let v = k.stable t (alike-wider w.text.now t s.usage.collected_to e.encoding s.usage.taken_from g a) in
        let pk : piece t s.head.name s.head.len ≡ piece w.text.now s.head.name s.head.len = ap (λ (x : Schema). x.package_name) v in
        let it : items_of s.usage.items w.records.now t ≡ items_of s.usage.items w.records.now w.text.now = ap (λ (x : Schema). x.items) v in
        rw (items-put s.usage.items w.records.now t e (omega (arith, k.lent.records)), it, pk, st.item t a)

    pub put-fine : After (added w.limits place (item_of w.text.now e) (builder_in w s)) w s (s.usage.taken_from - e.encoding) (over w rec') (Ok after)
    unfolding added
    put-fine =
        let sk : stack_of s.usage.depth rec' w.doc.now ≡ stack_of s.usage.depth w.records.now w.doc.now = stack-put s.usage.depth s.usage.items w.records.now w.doc.now e (omega arith) in
        let n : length (builder_in w s).schema.items ≡ s.usage.items = counted-items w s in
        after-of (rw (n, lt-leb w.limits.items s.usage.items c, schema-now w.text.now alike_self, sk))
        (record { within = record { deep = k.within.deep; many = omega arith; begun = k.within.begun; apart = h; top = omega (arith, k.within.top) }; lent = record { records = rw (length-sets w.records.now (15 * s.usage.items) (words_of e)) k.lent.records; bytes = k.lent.bytes }; stable = λ t a. schema-now t a ∙ sym (schema-now w.text.now alike_self) })
        (omega (arith, k.within.top))
        (record { limits = refl; doc = refl; records = refl; text = refl })

-- an item whose texts were taken on the way
module _ {w : Work} {s : State} {n m : ℕ} {it : Item} {e : Entry} {t : List ℕ} (r : RoomFor w s n) (h : m ≤ n) (p : Made it m s.usage.taken_from w.text.now e t) where
  pub made-low : s.usage.collected_to ≤ e.encoding
  made-low = omega (arith, p.start, r.room)

  made_alike : Alike s.usage.collected_to s.usage.taken_from w.text.now t
  made_alike = p.alike s.usage.collected_to made-low

  pub made-sound : Intact (texted w t) s
  made-sound = sound-alike w s t r.intact made_alike p.long

  pub made-steady : Steady s.usage.collected_to e.encoding t e
  made-steady = p.steady s.usage.collected_to

  pub made-high : e.encoding ≤ s.usage.taken_from
  made-high = omega (arith, p.start)

  pub made-added : (place : ℕ) {w' : Work} {a : Result State Refusal} → After (added w.limits place (item_of t e) (builder_in (texted w t) s)) (texted w t) s (s.usage.taken_from - e.encoding) w' a → After (added w.limits place it (builder_in w s)) w s n w' a
  made-added place q =
      let b : builder_in (texted w t) s ≡ builder_in w s = builder-alike w s t r.intact made_alike in
      after-then (record { limits = refl; doc = refl; records = refl; text = refl })
      (after-as s (ap (λ x. added w.limits place x (builder_in (texted w t) s)) p.is ∙ ap (added w.limits place it) b) refl (omega (arith, p.start)) q)

-- ---- the owner of an item

module _ (w : Work) (s : State) (i : ℕ) where
  pub owner-shown : {e : Entry} → i < s.usage.items → e ≡ entry_at w.records.now i → e.owner ≡ (item_at (builder_in w s).schema i).owner
  unfolding schema_of item_of
  owner-shown h q = ap (λ (x : Entry). x.owner) q ∙ ap (λ (x : Item). x.owner) (sym (get_or-items s.usage.items w.records.now w.text.now i h))

  pub owner-none : s.usage.items ≤ i → 0 ≡ (item_at (builder_in w s).schema i).owner
  unfolding schema_of
  owner-none h =
      let g : length (items_of s.usage.items w.records.now w.text.now) ≤ i = rw length-items h in
      ap (λ (x : Item). x.owner) (sym (get_or-eq_default (items_of s.usage.items w.records.now w.text.now) no_item g))
