-- Laws of the stack of open names.
use Rattle.std.proofs.Common.{◌≡◌, refl, sym, ap, ◌∙◌, Bool, true, List, ◌∷◌, ℕ, zero, suc, ◌+◌, ◌*◌, ◌-◌, ◌≤◌, ◌<◌, add-one, arith, length, get_or, set, length-set, get_or-set_same, get_or-set_other}
use lib.Seq.{sets}
use Rattle.texts.specs.Text.{ascii, piece, same}
use Rattle.texts.proofs.Comparing.{equal-same}
use Rattle.texts.proofs.Stores.{get_or-sets-above}
use Rattle.builder.specs.Limits.{max_items, max_depth}
use Rattle.builder.specs.Builder.{top, rest, with_stack}
use Rattle.model.specs.internal.Store.{entry_at, words_of, schema_of}
use Rattle.builder.specs.internal.Layout.{stack_at, stack_of, parent_composite, pushed, name_put, popped, over, model_in, builder_in, Intact, RoomFor, names_from}
use Rattle.model.specs.declared.Entry.{Entry}
use Rattle.builder.specs.declared.state.State.{State}
use Rattle.builder.specs.declared.work.Work.{Work}
use Rattle.model.proofs.Records.{entry_set, items-frame}

stack-frame : (d : ℕ) (rec rec' doc : List ℕ) → ((k : ℕ) → k < 2 * d → get_or rec' (names_from + k) 0 ≡ get_or rec (names_from + k) 0) → stack_of d rec' doc ≡ stack_of d rec doc
unfolding stack_of
stack-frame zero rec rec' doc f = refl
stack-frame (suc d) rec rec' doc f =
    let a : get_or rec' (names_from + 2 * d) 0 ≡ get_or rec (names_from + 2 * d) 0 = f (2 * d) (omega arith) in
    let z : names_from + (2 * d + 1) ≡ names_from + 2 * d + 1 = omega arith in
    let b : get_or rec' (names_from + 2 * d + 1) 0 ≡ get_or rec (names_from + 2 * d + 1) 0 = rw z at (f (2 * d + 1) (omega arith)) in
    rw (stack-frame d rec rec' doc (λ k h. f k (omega arith)), a, b)

pub length-stack : (d : ℕ) (rec doc : List ℕ) → length (stack_of d rec doc) ≡ d
unfolding stack_of
length-stack zero rec doc = refl
length-stack (suc d) rec doc = ap suc (length-stack d rec doc)

-- an entry lies below the stack
pub stack-put : (d i : ℕ) (rec doc : List ℕ) (e : Entry) → i < max_items → stack_of d (sets rec (15 * i) (words_of e)) doc ≡ stack_of d rec doc
stack-put d i rec doc e h = stack-frame d rec _ doc (λ k b. get_or-sets-above (words_of e) rec (15 * i) (names_from + k) (omega arith))

stack_push : (d from n : ℕ) (rec doc : List ℕ) → names_from + 2 * d + 2 ≤ length rec → stack_of (d + 1) (name_put rec d from n) doc ≡ piece doc from n ∷ stack_of d rec doc
unfolding stack_of
stack_push d from n rec doc h =
    let r = set rec (stack_at d) from in
    let a : get_or (set r (stack_at d + 1) n) (stack_at d) 0 ≡ from =
    get_or-set_other r (stack_at d + 1) (stack_at d) n 0 (λ e. omega arith) ∙ get_or-set_same rec (stack_at d) from 0 (omega arith) in
    let b : get_or (set r (stack_at d + 1) n) (stack_at d + 1) 0 ≡ n = get_or-set_same r (stack_at d + 1) n 0 (rw length-set (omega arith)) in
    let f : stack_of d (set r (stack_at d + 1) n) doc ≡ stack_of d rec doc =
    stack-frame d rec _ doc (λ k b. get_or-set_other r (stack_at d + 1) (names_from + k) n 0 (λ e. omega arith) ∙ get_or-set_other rec (stack_at d) (names_from + k) from 0 (λ e. omega arith)) in
    rw (add-one, a, b, f)

rest-stack : (d : ℕ) (rec doc : List ℕ) → stack_of (d - 1) rec doc ≡ rest (stack_of d rec doc)
unfolding stack_of
rest-stack zero rec doc = refl
rest-stack (suc d) rec doc = ap (λ k. stack_of k rec doc) (let z : suc d - 1 ≡ d = omega arith in z)

-- ---- a name pushed

module _ (w : Work) (s : State) (from len n : ℕ) (r : RoomFor w s n) (d : s.usage.depth < max_depth) where
  abbrev rec₁ : List ℕ
  rec₁ = name_put w.records.now s.usage.depth from len

  entries : (j : ℕ) → j < s.usage.items → entry_at rec₁ j ≡ entry_at w.records.now j
  entries j h =
      let m = r.intact.within.many in
      entry_set (set w.records.now (stack_at s.usage.depth) from) (stack_at s.usage.depth + 1) len j (omega arith) ∙ entry_set w.records.now (stack_at s.usage.depth) from j (omega arith)

  schema : (t : List ℕ) → schema_of (model_in s) rec₁ t ≡ schema_of (model_in s) w.records.now t
  unfolding schema_of
  schema t = rw (items-frame s.usage.items w.records.now rec₁ t entries)

  pub push-ready : RoomFor (over w rec₁) (pushed s) n
  push-ready =
      let k = r.intact in
      record {
        intact =
            record { within = record { deep = omega arith; many = k.within.many; begun = k.within.begun; apart = k.within.apart; top = k.within.top }; lent = record { records = rw (length-set, length-set) k.lent.records; bytes = k.lent.bytes }; stable = λ t a. schema t ∙ k.stable t a ∙ sym (schema w.text.now) };
        room = r.room;
      }

  pub push-builder : builder_in (over w rec₁) (pushed s) ≡ with_stack (piece w.doc.now from len ∷ (builder_in w s).stack) (builder_in w s)
  push-builder =
      let k : stack_of (s.usage.depth + 1) rec₁ w.doc.now ≡ piece w.doc.now from len ∷ stack_of s.usage.depth w.records.now w.doc.now = stack_push s.usage.depth from len w.records.now w.doc.now (omega (arith, r.intact.lent.records)) in
      rw (k, schema w.text.now)

-- ---- the innermost name, and a name popped

pub top-none : (w doc rec : List ℕ) (d : ℕ) → d ≡ 0 → w ≡ piece doc 0 0 → w ≡ top (stack_of d rec doc)
unfolding stack_of
top-none w doc rec d h e = rw h e

pub top-some : (w doc rec : List ℕ) (d a b : ℕ) → (d ≡ 0 → ⊥) → w ≡ piece doc a b → a ≡ get_or rec (names_from + 2 * (d - 1)) 0 → b ≡ get_or rec (names_from + 2 * (d - 1) + 1) 0 → w ≡ top (stack_of d rec doc)
unfolding stack_of
top-some w doc rec zero a b h e ea eb = absurd (h refl)
top-some w doc rec (suc d) a b h e ea eb =
    let z : suc d - 1 ≡ d = omega arith in
    e ∙ rw (rw z at ea, rw z at eb)

-- a name is the innermost one: where it is the same range, or the same text
pub top-here : (doc rec : List ℕ) (d name len : ℕ) → 0 < d → {a b : ℕ} → a ≡ get_or rec (names_from + 2 * (d - 1)) 0 → a ≡ name → b ≡ get_or rec (names_from + 2 * (d - 1) + 1) 0 → b ≡ len → true ≡ same (piece doc name len) (top (stack_of d rec doc))
top-here doc rec d name len h e i f j = sym (equal-same (top-some (piece doc name len) doc rec d name len (λ z. omega arith) refl (sym i ∙ e) (sym j ∙ f)))

pub top-same : (doc rec : List ℕ) (d name len : ℕ) {v w : List ℕ} → v ≡ piece doc name len → w ≡ top (stack_of d rec doc) → {b : Bool} → b ≡ same v w → b ≡ same (piece doc name len) (top (stack_of d rec doc))
top-same doc rec d name len e f g = rw (← e, ← f) g

-- the parent's name is the innermost one of those below
pub parent-same : (w : Work) (s : State) {d : ℕ} → d ≡ s.usage.depth - 1 → {v : List ℕ} → v ≡ top (stack_of d w.records.now w.doc.now) → {b : Bool} → b ≡ same v (ascii "composite") → b ≡ parent_composite (builder_in w s)
parent-same w s e f g = g ∙ ap (λ x. same x (ascii "composite")) (f ∙ ap (λ k. top (stack_of k w.records.now w.doc.now)) e ∙ ap top (rest-stack s.usage.depth w.records.now w.doc.now))

module _ (w : Work) (s : State) where
  pub pop-sound : Intact w s → Intact w (popped s)
  pop-sound k = record { within = record { deep = omega (arith, k.within.deep); many = k.within.many; begun = k.within.begun; apart = k.within.apart; top = k.within.top }; lent = k.lent; stable = k.stable }

  pub pop-builder : builder_in w (popped s) ≡ with_stack (rest (builder_in w s).stack) (builder_in w s)
  pop-builder = rw (rest-stack s.usage.depth w.records.now w.doc.now)
