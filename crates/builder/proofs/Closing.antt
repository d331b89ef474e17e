-- Laws of closing an element, and of text.
use Rattle.std.proofs.Common.{◌≡◌, refl, sym, ap, ◌∙◌, Bool, true, false, List, [], ◌++◌, ℕ, ◌+◌, ◌*◌, ◌-◌, ◌≤◌, ◌<◌, arith, Fits, w64, length, take, drop, get_or, set, take-add, drop-drop, Option, None, Some, Result, Ok, Err}
use lib.Seq.{sets, length-sets}
use Rattle.texts.specs.Text.{piece, same}
use Rattle.texts.specs.Trim.{trimmed, TrimmedTo}
use Rattle.texts.specs.declared.Range.{Range}
use Rattle.texts.proofs.Stores.{piece-stored, piece-below}
use Rattle.refusals.specs.declared.Refusal.{Refusal}
use Rattle.refusals.specs.declared.Refusal.TheVariants.{WrongClose}
use Rattle.entities.specs.Entities.{decoded}
use Rattle.model.specs.Schema.{Schema, no_item, under, last, positions_from, a_value}
use Rattle.model.specs.Search.{last_under}
use Rattle.builder.specs.Builder.{Builder, on, refused, with_stack, with_text, with_schema, with_second, with_second_at, close_value, close_by, closed, collect, top, rest}
use Rattle.model.specs.internal.Store.{entry_at, words_of, item_of, items_of, schema_of}
use Rattle.builder.specs.internal.Layout.{model_in, builder_in, stack_of, over, texted, valued, valued_at, popped, Alike, Intact, RoomFor, After}
use Rattle.elements.specs.Elements.{element_of}
use Rattle.elements.specs.declared.Element.{Element}
use Rattle.model.specs.declared.Entry.{Entry}
use Rattle.builder.specs.declared.state.Current.{Current}
use Rattle.builder.specs.declared.state.State.{State}
use Rattle.builder.specs.declared.work.Work.{Work}
use Rattle.model.proofs.Records.{items-set, get_or-items}
use Rattle.model.proofs.Searching.{last_in}
use Rattle.model.specs.Schema.{is_under}
use Rattle.builder.proofs.Alikes.{alike_self, alike-sets, alike-trans, alike-lower}
use Rattle.builder.proofs.Stacking.{stack-put, pop-builder}
use Rattle.builder.proofs.Adding.{after-of, after_turned, after-as, after-refused, after_same}
use Rattle.builder.proofs.Takes.{decoded-most}
use Rattle.builder.proofs.Finding.{currently, emptied, sound-emptied}

-- ---- a value given

-- o is what the search answered
module _ (w : Work) (s : State) (owner : ℕ) (v : Range) {o : Option ℕ} (f : o ≡ last_under a_value owner (builder_in w s).schema.items) where
  pub put_value-none : o ≡ None → w ≡ over w (valued_at (last_under a_value owner (builder_in w s).schema.items) v w.records.now)
  put_value-none e = rw (sym f ∙ e) refl

  pub put_value-fits : {i : ℕ} → o ≡ Some i → Intact w s → 15 * i + 10 ≤ length w.records.now
  unfolding last_under schema_of
  put_value-fits {i} e k = omega (arith, k.within.many, k.lent.records, last_in (is_under a_value owner) s.usage.items w.records.now w.text.now (sym f ∙ e))

  pub put_value-some : {i : ℕ} → o ≡ Some i → {e : Entry} → e ≡ entry_at w.records.now i → {rec' : List ℕ} → rec' ≡ sets w.records.now (15 * i) (words_of (valued v e)) → over w rec' ≡ over w (valued_at (last_under a_value owner (builder_in w s).schema.items) v w.records.now)
  put_value-some q ee er = ap (over w) (er ∙ rw (sym f ∙ q, ee))

valued-item : (t : List ℕ) (v : Range) (e : Entry) (w : List ℕ) → piece t v.from v.len ≡ w → item_of t (valued v e) ≡ with_second w (item_of t e)
unfolding item_of
valued-item t v e w q = rw q

-- the entry with its value, and what the model then is
module _ (w : Work) (s : State) (k : Intact w s) (v : Range) (z : TrimmedTo w.text.now s.usage.collected_from (s.usage.collected_to - s.usage.collected_from) v) (owner : ℕ) where
  abbrev rec : List ℕ
  rec = w.records.now

  abbrev text : List ℕ
  text = w.text.now

  abbrev doc : List ℕ
  doc = w.doc.now

  abbrev rec' : List ℕ
  rec' = valued_at (last_under a_value owner (items_of s.usage.items rec text)) v rec

  abbrev value : List ℕ
  value = trimmed (piece text s.usage.collected_from (s.usage.collected_to - s.usage.collected_from))

  same-value : (t : List ℕ) → Alike s.usage.collected_to s.usage.taken_from text t → piece t v.from v.len ≡ value
  same-value t a = piece-below text t s.usage.collected_to v.from v.len (omega (arith, z.high, k.within.begun)) a.below ∙ z.is

  valued-schema : (t : List ℕ) → Alike s.usage.collected_to s.usage.taken_from text t → schema_of (model_in s) rec' t ≡ with_second_at (last (under a_value owner (schema_of (model_in s) rec text))) value (schema_of (model_in s) rec text)
  unfolding schema_of under last_under
  valued-schema t a = go (last (positions_from 0 (is_under a_value owner) (items_of s.usage.items rec text))) refl
    where
      st : schema_of (model_in s) rec t ≡ schema_of (model_in s) rec text
      st = k.stable t a

      go : (o : Option ℕ) → last (positions_from 0 (is_under a_value owner) (items_of s.usage.items rec text)) ≡ o
          → record { package_name = piece t s.head.name s.head.len; id = s.head.id; version = s.head.version; items = items_of s.usage.items (valued_at o v rec) t }
          ≡ with_second_at o value (record { package_name = piece text s.head.name s.head.len; id = s.head.id; version = s.head.version; items = items_of s.usage.items rec text })
      go None q = st
      go (Some i) q =
          let h : i < s.usage.items = last_in (is_under a_value owner) s.usage.items rec text q in
          let items : items_of s.usage.items rec t ≡ items_of s.usage.items rec text = ap (λ (x : Schema). x.items) st in
          let pk : piece t s.head.name s.head.len ≡ piece text s.head.name s.head.len = ap (λ (x : Schema). x.package_name) st in
          let e : item_of t (entry_at rec i) ≡ item_of text (entry_at rec i) = sym (get_or-items s.usage.items rec t i h) ∙ ap (λ l. get_or l i no_item) items ∙ get_or-items s.usage.items rec text i h in
          let n : item_of t (valued v (entry_at rec i)) ≡ with_second value (get_or (items_of s.usage.items rec text) i no_item) =
          valued-item t v (entry_at rec i) value (same-value t a) ∙ ap (with_second value) (e ∙ sym (get_or-items s.usage.items rec text i h)) in
          let w' : items_of s.usage.items (valued_at (Some i) v rec) t ≡ set (items_of s.usage.items rec text) i (with_second value (get_or (items_of s.usage.items rec text) i no_item)) =
          items-set s.usage.items rec t i (valued v (entry_at rec i)) (omega (arith, k.within.many, k.lent.records)) h ∙ ap (λ l. set l i (item_of t (valued v (entry_at rec i)))) items ∙ ap (set (items_of s.usage.items rec text) i) n in
          rw (w', pk)

  valued-stack : stack_of s.usage.depth rec' doc ≡ stack_of s.usage.depth rec doc
  unfolding last_under
  valued-stack = go (last (positions_from 0 (is_under a_value owner) (items_of s.usage.items rec text))) refl
    where
      go : (o : Option ℕ) → last (positions_from 0 (is_under a_value owner) (items_of s.usage.items rec text)) ≡ o → stack_of s.usage.depth (valued_at o v rec) doc ≡ stack_of s.usage.depth rec doc
      go None q = refl
      go (Some i) q = stack-put s.usage.depth i rec doc (valued v (entry_at rec i)) (omega (arith, last_in (is_under a_value owner) s.usage.items rec text q, k.within.many))

  valued-long : length rec' ≡ length rec
  valued-long = go (last_under a_value owner (items_of s.usage.items rec text))
    where
      go : (o : Option ℕ) → length (valued_at o v rec) ≡ length rec
      go None = refl
      go (Some i) = length-sets rec (15 * i) (words_of (valued v (entry_at rec i)))

-- ---- a validValue closes

value_none : (b : Builder) → b.current.enum ≡ None → with_text false [] b ≡ close_value b
unfolding close_value
value_none b e = rw e

value-some : (b : Builder) {e : ℕ} → b.current.enum ≡ Some e → with_text false [] (with_schema (with_second_at (last (under a_value e b.schema)) (trimmed b.collected) b.schema) b) ≡ close_value b
unfolding close_value
value-some b e = rw e

abbrev pub idle : State → Current
idle s = record s.current { collecting = false }

module _ {w : Work} {s : State} (k : Intact w s) where
  pub value-lost : s.current.enumeration ≡ None → After (on (close_value (builder_in w s))) w s 0 w (Ok (emptied s (idle s)))
  value-lost e =
      let o : s.usage.collected_to - s.usage.collected_to ≡ 0 = omega arith in
      after_turned (ap on (rw o (value_none (builder_in w s) e))) (sound-emptied k) (omega arith)

  pub value-closed : {owner : ℕ} → s.current.enumeration ≡ Some owner → {v : Range} → TrimmedTo w.text.now s.usage.collected_from (s.usage.collected_to - s.usage.collected_from) v → {w' : Work}
      → w' ≡ over w (valued_at (last_under a_value owner (builder_in w s).schema.items) v w.records.now) → After (on (close_value (builder_in w s))) w s 0 w' (Ok (emptied s (idle s)))
  unfolding schema_of
  value-closed {owner} e {v} z er =
      let o : s.usage.collected_to - s.usage.collected_to ≡ 0 = omega arith in
      rw er
      (after-of (ap on (rw (o, valued-stack w s k v z owner, valued-schema w s k v z owner w.text.now alike_self) (value-some (builder_in w s) e)))
      (record { within = record { deep = k.within.deep; many = k.within.many; begun = omega arith; apart = k.within.apart; top = k.within.top }; lent = record { records = rw (valued-long w s k v z owner) k.lent.records; bytes = k.lent.bytes }; stable = λ t b. valued-schema w s k v z owner t b ∙ sym (valued-schema w s k v z owner w.text.now alike_self) })
      (omega arith)
      (record { limits = refl; doc = refl; records = refl; text = refl }))

  -- ---- by element: what stays, and other things current

  pub closed-same : After (on (builder_in w s)) w s 0 w (Ok s)
  closed-same = after_same refl k

  pub closed-current : (c : Current) → After (on (builder_in w (currently s c))) w s 0 w (Ok (currently s c))
  closed-current c = after_turned refl (record { within = k.within; lent = k.lent; stable = k.stable }) (omega arith)

-- ---- a whole close

closed-yes : (place : ℕ) (name : List ℕ) (b : Builder) → same name (top b.stack) ≡ true → on (close_by (element_of name) (with_stack (rest b.stack) b)) ≡ closed place name b
unfolding closed
closed-yes place name b t = rw t

closed-no : (place : ℕ) (name : List ℕ) (b : Builder) → same name (top b.stack) ≡ false → refused (WrongClose place) ≡ closed place name b
unfolding closed
closed-no place name b t = rw t

module _ {w : Work} {s : State} (place : ℕ) (name : List ℕ) {b : Bool} (eb : b ≡ same name (top (builder_in w s).stack)) where
  pub close-wrong : b ≡ false → After (closed place name (builder_in w s)) w s 0 w (Err (WrongClose place))
  close-wrong f = after-refused (closed-no place name (builder_in w s) (sym eb ∙ f))

  pub close-right : b ≡ true → {e : Element} → e ≡ element_of name → {p : State} → p ≡ popped s → {w' : Work} {r : Result State Refusal} → After (on (close_by e (builder_in w p))) w p 0 w' r → After (closed place name (builder_in w s)) w s 0 w' r
  close-right t {e} ee {p} ep f =
      let q : on (close_by e (builder_in w (popped s))) ≡ closed place name (builder_in w s) =
      ap (λ x. on (close_by e x)) (pop-builder w s)
      ∙ ap (λ x. on (close_by x (with_stack (rest (builder_in w s).stack) (builder_in w s)))) ee
      ∙ closed-yes place name (builder_in w s) (sym eb ∙ t) in
      after-as s q refl (omega arith) (rw ep at f)

-- ---- text

collect-on : (v : List ℕ) (b : Builder) → b.collecting ≡ true → with_text true (b.collected ++ v) b ≡ collect v b
unfolding collect
collect-on v b t = rw t

pub text_off : (v : List ℕ) (b : Builder) → b.collecting ≡ false → on b ≡ on (collect v b)
unfolding collect
text_off v b t = ap on (rw t)

module _ {w : Work} {s : State} (from len : ℕ) (r : RoomFor w s len) where
  pub text-lost : s.current.collecting ≡ false → After (on (collect (decoded (piece w.doc.now from len)) (builder_in w s))) w s len w (Ok s)
  text-lost f = after_same (text_off (decoded (piece w.doc.now from len)) (builder_in w s) f) r.intact

  pub text-room : s.usage.collected_to + len ≤ length w.text.now
  text-room = omega (arith, r.room, r.intact.within.top, r.intact.lent.bytes)

  module _ {n : ℕ} {t : List ℕ} (en : n ≡ length (decoded (piece w.doc.now from len))) (et : t ≡ sets w.text.now s.usage.collected_to (decoded (piece w.doc.now from len))) where
    short : n ≤ len
    short = omega (arith, decoded-most w.doc.now from len)

    pub text-fits : Fits w64 (s.usage.collected_to + n)
    text-fits = omega (arith, short, r.room, r.intact.within.top)

    abbrev longer : State
    longer = record s { usage = record s.usage { collected_to = s.usage.collected_to + n } }

    alike : Alike s.usage.collected_to s.usage.taken_from w.text.now t
    alike = rw et (alike-sets w.text.now (decoded (piece w.doc.now from len)) s.usage.collected_to s.usage.taken_from s.usage.collected_to (omega arith) (omega (arith, short, r.room)))

    -- the collected text goes on
    joined : piece t s.usage.collected_from (s.usage.collected_to + n - s.usage.collected_from) ≡ piece w.text.now s.usage.collected_from (s.usage.collected_to - s.usage.collected_from) ++ decoded (piece w.doc.now from len)
    joined =
        let b = r.intact.within.begun in
        let z : s.usage.collected_to + n - s.usage.collected_from ≡ s.usage.collected_to - s.usage.collected_from + n = omega arith in
        let y : s.usage.collected_from + (s.usage.collected_to - s.usage.collected_from) ≡ s.usage.collected_to = omega arith in
        let c : piece t s.usage.collected_from (s.usage.collected_to - s.usage.collected_from) ≡ piece w.text.now s.usage.collected_from (s.usage.collected_to - s.usage.collected_from) =
        piece-below w.text.now t s.usage.collected_to s.usage.collected_from (s.usage.collected_to - s.usage.collected_from) (omega arith) alike.below in
        let v : piece t s.usage.collected_to n ≡ decoded (piece w.doc.now from len) = rw et (piece-stored (decoded (piece w.doc.now from len)) w.text.now s.usage.collected_to n (sym en) (omega (arith, text-room, short))) in
        ap (λ k. take k (drop s.usage.collected_from t)) z ∙ take-add (s.usage.collected_to - s.usage.collected_from) n (drop s.usage.collected_from t)
        ∙ rw (c, drop-drop (s.usage.collected_to - s.usage.collected_from) s.usage.collected_from t, y, v)

    pub text-on : s.current.collecting ≡ true → After (on (collect (decoded (piece w.doc.now from len)) (builder_in w s))) w s len (texted w t) (Ok longer)
    text-on f =
        let k = r.intact in
        let z : builder_in (texted w t) longer ≡ with_text true ((builder_in w s).collected ++ decoded (piece w.doc.now from len)) (builder_in w s) = rw (joined, k.stable t alike, f) in
        after-of (ap on (z ∙ collect-on (decoded (piece w.doc.now from len)) (builder_in w s) f))
        (record { within = record { deep = k.within.deep; many = k.within.many; begun = omega (arith, k.within.begun); apart = omega (arith, short, r.room); top = k.within.top }; lent = record { records = k.lent.records; bytes = rw (et, length-sets w.text.now s.usage.collected_to (decoded (piece w.doc.now from len))) k.lent.bytes }; stable = λ u b. k.stable u (alike-trans alike (alike-lower t u s.usage.collected_to (s.usage.collected_to + n) s.usage.taken_from (omega arith) b)) ∙ sym (k.stable t alike) })
        (omega (arith, short))
        (record { limits = refl; doc = refl; records = refl; text = refl })
