-- Laws of messageSchema, and of a whole open.
use Rattle.std.proofs.lemmas.Result.{err_from_is_err_and}
use Rattle.texts.specs.declared.Range.{Range}
use Rattle.std.proofs.Common.{Option, Some, None, Result, Ok, Err, IsErrAnd, ◌≡◌, refl, sym, ap, ◌∙◌, false, List, ◌∷◌, ℕ, ◌-◌, ◌≤◌, ◌<◌, arith, leb, length, le-leb}
use denote.Ref.{Bor}
use borrow.Author.Tests.{lt-leb}
use Rattle.texts.specs.Text.{ascii, piece, same}
use Rattle.texts.proofs.Stores.{piece-above}
use Rattle.refusals.specs.declared.Refusal.{Refusal}
use Rattle.refusals.specs.declared.Refusal.TheVariants.{BadNumber, TooDeep}
use Rattle.builder.specs.declared.work.Found.{Found}
use Rattle.tags.specs.Attributes.{attribute_at, raw_length}
use Rattle.elements.specs.Keys.{schema_keys, keys_of}
use Rattle.saxlite.specs.Event.{value_in}
use Rattle.numbers.specs.Numbers.{number_of}
use Rattle.model.specs.Schema.{Schema}
use Rattle.builder.specs.Builder.{Builder, on, refused, Attributes, number_in, text_in, or_empty, with_schema, open_schema, open_by, opened, top, with_stack}
use Rattle.model.specs.internal.Store.{items_of, schema_of}
use Rattle.builder.specs.Limits.{max_depth}
use Rattle.builder.specs.internal.Layout.{model_in, builder_in, texted, parent_composite, pushed, with_name, room, Alike, RoomFor, KnownTag, After}
use Rattle.builder.specs.internal.Taking.{attributes_of, TakenAt, NumberRead, CanOpen, Finds}
use Rattle.elements.specs.Elements.{element_of}
use Rattle.builder.specs.declared.state.State.{State}
use Rattle.builder.specs.declared.work.Tag.{Tag}
use Rattle.builder.specs.declared.work.Work.{Work}
use Rattle.builder.proofs.Alikes.{alike_self, alike-wider, alike-trans, builder-alike}
use Rattle.builder.proofs.Stacking.{length-stack, push-ready, push-builder}
use Rattle.builder.proofs.Adding.{same-trans, after-of, after-as, after-then, after-refused}
use Rattle.builder.proofs.Finding.{second-said, name-said, name-room}
use Rattle.builder.proofs.Opening.{is_number, number-ok, number-err}

-- ---- messageSchema

schema-by : (place : ℕ) (a : Attributes) (b : Builder) (id version : ℕ) → number_in a "id" ≡ Some id → number_in a "version" ≡ Some version
    → on (with_schema (record { package_name = text_in a "package"; id = id; version = version; items = b.schema.items }) b) ≡ open_schema place a b
unfolding open_schema
schema-by place a b id version f g = rw (f, g)

bad-version : (place : ℕ) (a : Attributes) (b : Builder) {id : ℕ} → number_in a "id" ≡ Some id → number_in a "version" ≡ None → refused (BadNumber place) ≡ open_schema place a b
unfolding open_schema
bad-version place a b f g = rw (f, g)

-- two numbers, then the package's name
module _ {w : Work} {s : State} {tag : Tag} (o : CanOpen schema_keys w s tag) {f : Found} (ef : Finds tag f) {w₁ : Work} {x : Result ℕ Refusal} (m : NumberRead tag.place (room tag) f.number w s w₁ x) where
  abbrev Schemas : Work → Result State Refusal → Type 0
  Schemas w' r = After (open_schema tag.place (attributes_of w tag) (builder_in w s)) w s (room tag) w' r

  module _ {id : ℕ} (ex : x ≡ Ok id) {w₂ : Work} {y : Result ℕ Refusal} (n : NumberRead tag.place (room tag) f.second w₁ s w₂ y) where
    said : number_of (value_in w₁.doc.now f.second) ≡ number_in (attributes_of w tag) "version"
    said = ap (λ (d : Bor (List ℕ)). number_of (value_in d.now f.second)) m.same.doc ∙ ap (λ (v : Option Range). number_of (value_in w.doc.now v)) (second-said o ef)

    pub version-refused : {q : Refusal} → y ≡ Err q → {r : Result State Refusal} → IsErrAnd r (λ z. z ≡ q) → Schemas w₂ r
    version-refused e {r} h =
        let p = err_from_is_err_and r h in
        let v = number-err tag.place _ (sym e ∙ n.is) in
        let z : r ≡ Err (BadNumber tag.place) = p.1 ∙ ap (λ u. Err u) (p.2 ∙ v.1) in
        rw z (after-of (bad-version tag.place (attributes_of w tag) (builder_in w s) (is_number o ef m ex) (sym said ∙ v.0)) tt tt (same-trans m.same n.same))

    pub package-asked : (raw_length f.name ≤ s.usage.taken_from) × (s.usage.taken_from ≤ length w₂.text.now)
    package-asked = (omega (arith, name-room o ef, n.room.room), omega (arith, n.room.intact.within.top, n.room.intact.lent.bytes))

    module _ {version : ℕ} (ey : y ≡ Ok version) {k : Range} {t : List ℕ} (q : TakenAt f.name w₂.doc.now w₂.text.now s.usage.taken_from k t) where
      low : s.usage.collected_to ≤ k.from
      low = omega (arith, name-room o ef, n.room.room, q.start)

      abbrev now : State
      now = record s { usage = record s.usage { taken_from = k.from }; head = record { name = k.from; len = k.len; id = id; version = version } }

      whole : Alike s.usage.collected_to s.usage.taken_from w₂.text.now t
      whole = q.alike s.usage.collected_to low

      abbrev schema : Schema
      schema = record { package_name = text_in (attributes_of w tag) "package"; id = id; version = version; items = (builder_in w₂ s).schema.items }

      schema-now : (u : List ℕ) → Alike s.usage.collected_to k.from t u → schema_of (model_in now) w₂.records.now u ≡ schema
      unfolding schema_of
      schema-now u a =
          let d : w₂.doc ≡ w.doc = n.same.doc ∙ m.same.doc in
          let p : piece u k.from k.len ≡ or_empty (value_in w.doc.now (attribute_at w.doc.now tag.attributes (ascii "package"))) =
          piece-above t u k.from k.from k.len (omega arith) a.above ∙ q.is ∙ ap (λ (x : Bor (List ℕ)). or_empty (value_in x.now f.name)) d ∙ ap (λ (x : Option Range). or_empty (value_in w.doc.now x)) (name-said o ef) in
          let i : items_of s.usage.items w₂.records.now u ≡ items_of s.usage.items w₂.records.now w₂.text.now =
          ap (λ (x : Schema). x.items) (n.room.intact.stable u (alike-trans whole (alike-wider t u s.usage.collected_to k.from s.usage.taken_from (omega (arith, q.start)) a))) in
          rw (p, i)

      pub schema-on : Schemas (texted w₂ t) (Ok now)
      schema-on =
          let c : piece t s.usage.collected_from (s.usage.collected_to - s.usage.collected_from) ≡ piece w₂.text.now s.usage.collected_from (s.usage.collected_to - s.usage.collected_from) =
          ap (λ (b : Builder). b.collected) (builder-alike w₂ s t n.room.intact whole) in
          let b : builder_in w₂ s ≡ builder_in w s = n.builder ∙ m.builder in
          let r : builder_in (texted w₂ t) now ≡ with_schema schema (builder_in w₂ s) = rw (c, schema-now t alike_self) in
          let k = n.room.intact in
          after-of
          (ap on r
          ∙ schema-by tag.place (attributes_of w tag) (builder_in w₂ s) id version (is_number o ef m ex) (sym said ∙ number-ok tag.place _ (sym ey ∙ n.is))
          ∙ ap (open_schema tag.place (attributes_of w tag)) b)
          (record { within = record { deep = k.within.deep; many = k.within.many; begun = k.within.begun; apart = low; top = omega (arith, q.start, k.within.top) }; lent = record { records = k.lent.records; bytes = omega (arith, q.long, k.lent.bytes) }; stable = λ u a. schema-now u a ∙ sym (schema-now t alike_self) })
          (omega (arith, q.start, k.within.top, name-room o ef))
          (same-trans m.same (same-trans n.same (record { limits = refl; doc = refl; records = refl; text = refl })))

-- ---- a whole open

module _ {w : Work} {s : State} where
  pub open-deep : (place : ℕ) {n : ℕ} (name : List ℕ) (a : Attributes) → w.limits.depth ≤ s.usage.depth → After (opened w.limits place name a (builder_in w s)) w s n w (Err (TooDeep place))
  unfolding opened
  open-deep place name a h = after-refused (rw (length-stack s.usage.depth w.records.now w.doc.now, le-leb w.limits.depth s.usage.depth h))

opened-by : (w : Work) (place : ℕ) (name : List ℕ) (a : Attributes) (b : Builder) → leb w.limits.depth (length b.stack) ≡ false
    → open_by (element_of name) w.limits place (same (top b.stack) (ascii "composite")) a (with_stack (name ∷ b.stack) b) ≡ opened w.limits place name a b
unfolding opened
opened-by w place name a b h = rw h

module _ {w : Work} {s : State} {tag : Tag} (r : RoomFor w s (room tag)) (g : KnownTag w.doc.now tag) (d : s.usage.depth < w.limits.depth) (m : w.limits.depth ≤ max_depth) {p : State} (ep : p ≡ pushed s) {w₁ : Work} (ew : w₁ ≡ with_name w s tag.name.from tag.name.len) where
  deep : s.usage.depth < max_depth
  deep = omega arith

  pub pushed-opens : CanOpen (keys_of tag.element) w₁ p tag
  pushed-opens =
      rw (ep, ew)
      (record {
        room = push-ready w s tag.name.from tag.name.len (room tag) r deep;
        tagged = g.tagged;
        noted = g.noted;
      })

  pub open_done : {w' : Work} {c : Result State Refusal} → After (open_by tag.element w₁.limits tag.place (parent_composite (builder_in w₁ p)) (attributes_of w₁ tag) (builder_in w₁ p)) w₁ p (room tag) w' c
      → After (opened w.limits tag.place (piece w.doc.now tag.name.from tag.name.len) (attributes_of w tag) (builder_in w s)) w s (room tag) w' c
  open_done {c = c} f =
      let name = piece w.doc.now tag.name.from tag.name.len in
      let b = builder_in w s in
      let k : leb w.limits.depth (length b.stack) ≡ false = rw (length-stack s.usage.depth w.records.now w.doc.now) (lt-leb w.limits.depth s.usage.depth d) in
      let h = rw (ep, ew) at f in
      let q : open_by tag.element w.limits tag.place (parent_composite (builder_in (with_name w s tag.name.from tag.name.len) (pushed s))) (attributes_of w tag) (builder_in (with_name w s tag.name.from tag.name.len) (pushed s)) ≡ opened w.limits tag.place name (attributes_of w tag) b =
      ap (λ x. open_by tag.element w.limits tag.place (parent_composite x) (attributes_of w tag) x) (push-builder w s tag.name.from tag.name.len (room tag) r deep)
      ∙ ap (λ x. open_by x w.limits tag.place (same (top b.stack) (ascii "composite")) (attributes_of w tag) (with_stack (name ∷ b.stack) b)) g.named
      ∙ opened-by w tag.place name (attributes_of w tag) b k in
      let a = after-as s q refl (omega arith) h in
      after-then (record { limits = refl; doc = refl; records = refl; text = refl }) a
