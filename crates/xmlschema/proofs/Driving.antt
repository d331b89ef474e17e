-- Laws of the driver: what it keeps from event to event.
use Rattle.std.proofs.Common.{◌≡◌, refl, sym, ap, subst, ◌∙◌, List, ℕ, ◌≤◌, ◌<◌, arith, length, Option, Some, None, Result, Ok, Err, lt-ltb, le-ltb}
use Rattle.refusals.specs.declared.Refusal.{Refusal}
use Rattle.refusals.specs.declared.Refusal.TheVariants.{OpenElements}
use Rattle.elements.specs.declared.Element.{Element}
use Rattle.saxlite.specs.Event.{Event, Events, broken, done, next}
use Rattle.saxlite.specs.Events.{events}
use Rattle.saxlite.specs.Reader.{cursor_at, event_in, to_come, Yields}
use Rattle.saxlite.specs.internal.Moving.{takes, Inside, IsElement, NotedIn, OwedElement, TellsElement, left, CursorIn, Moves, Advances}
use Rattle.saxlite.specs.declared.event.Event.{Event as Found}
use Rattle.saxlite.specs.declared.event.Event.TheVariants.{Text, Open, Close}
use Rattle.saxlite.specs.declared.event.Owed.{Owed}
use Rattle.saxlite.specs.declared.event.Told.{Told}
use Rattle.saxlite.specs.declared.reader.Reader.{Reader}
use Rattle.model.specs.internal.Store.{items_of, schema_of}
use Rattle.builder.specs.Builder.{Builder, on, refused}
use Rattle.builder.specs.internal.Layout.{builder_in, stack_of, initial, model_in, Sound, Ready, Same, After}
use Rattle.builder.specs.Limits.{Limits, max_document}
use Rattle.builder.specs.declared.state.State.{State}
use Rattle.builder.specs.declared.work.Work.{Work}
use Rattle.builder.proofs.Stacking.{length-stack}
use Rattle.xmlschema.specs.Whole.{Whole, step, accepted, refused_by, built, empty, ending, reading}
use Rattle.xmlschema.specs.internal.Driving.{with_state, Driving}

-- before the first event
pub drive-start : {r : Reader} {w : Work} → Sound w initial → r.doc.now ≡ w.doc.now → r.cursor ≡ cursor_at 0 → Driving r w initial
unfolding schema_of items_of stack_of
drive-start k d c =
    record { doc = d; sound = k; used = rw c (omega arith); cursor = rw c (record { within = omega arith; owed = tt }); same = rw (d, c) refl }

-- the element of any event, by that of an owed close
element-told : (doc : List ℕ) (o : Option Owed) (event : Found) (e : Element) → TellsElement doc o event e → OwedElement doc o → IsElement doc event e
element-told doc o (Open name attributes end) e t h = t
element-told doc o (Close name) e t h = t h
element-told doc o (Text at) e t h = t

-- ---- what events make

pub built-on : (l : Limits) (place : ℕ) (e : Event) (more : Events) (b b' : Builder) → step l place e b ≡ on b' → built l (next place e more) b ≡ built l more b'
unfolding built
built-on l place e more b b' q = rw (built, q) refl

pub built-refused : (l : Limits) (place : ℕ) (e : Event) (more : Events) (b : Builder) (r : Refusal) → step l place e b ≡ refused r → built l (next place e more) b ≡ refused r
unfolding built
built-refused l place e more b r q = rw (built, q) refl

module _ {r : Reader} {w : Work} {s : State} (d : Driving r w s) {r' : Reader} {y : Result (Option Told) Refusal} (yields : Yields r r' y) where
  -- the reader refuses
  pub drive-broken : {q : Refusal} → y ≡ Err q → refused_by q ≡ reading w.limits w.doc.now
  unfolding built ending
  drive-broken {q} e =
      let z : to_come r.doc.now r.cursor ≡ broken q = (rw e at yields).is in
      let b : refused q ≡ built w.limits (events w.doc.now) empty = rw z at d.same in
      rw (← b) refl

  -- nothing is left
  module _ {o : Option Told} (e : y ≡ Ok o) where
    none : o ≡ None → on (builder_in w s) ≡ built w.limits (events w.doc.now) empty
    unfolding built
    none f =
        let z : to_come r.doc.now r.cursor ≡ done = (rw (e ∙ ap Ok f) at yields).is in
        rw z at d.same

    pub drive-open : o ≡ None → 0 < s.usage.depth → refused_by (OpenElements (length w.doc.now)) ≡ reading w.limits w.doc.now
    unfolding ending
    drive-open f h = rw (← none f, length-stack s.usage.depth w.records.now w.doc.now, lt-ltb 0 s.usage.depth h) refl

    pub drive-done : o ≡ None → s.usage.depth ≤ 0 → accepted (schema_of (model_in s) w.records.now w.text.now) ≡ reading w.limits w.doc.now
    unfolding ending
    drive-done f h = rw (← none f, length-stack s.usage.depth w.records.now w.doc.now, le-ltb 0 s.usage.depth h) refl

    -- an event
    module _ (advances : Advances r.doc.now r.cursor r'.cursor y) {t : Told} (f : o ≡ Some t) where
      moves : Moves r.doc.now r.cursor t r'.cursor
      moves = rw (e ∙ ap Ok f) at advances

      sound : CursorIn r.doc.now r.cursor
      sound = rw d.doc d.cursor

      inside : CursorIn w.doc.now r'.cursor
      inside = rw d.doc at (moves.sound sound)

      pub drive-ready : Ready w s (takes t.event)
      drive-ready =
          record { sound = d.sound; room = omega (arith, moves.grows, inside.within, d.used, d.sound.lent.document, d.sound.within.top, d.sound.within.apart) }

      pub drive-document : length w.doc.now ≤ max_document
      drive-document = d.sound.lent.document

      pub drive-inside : Inside w.doc.now t.event
      drive-inside = rw d.doc at moves.inside

      pub drive-element : IsElement w.doc.now t.event t.element
      drive-element = rw d.doc at (element-told r.doc.now r.cursor.owed t.event t.element moves.element sound.owed)

      pub drive-noted : NotedIn w.doc.now t.event t.element t.noted
      drive-noted = rw d.doc at moves.noted

      pub drive-less : left r'.doc.now r'.cursor < left r.doc.now r.cursor
      drive-less = rw yields.doc moves.less

      here : built w.limits (next t.place (event_in w.doc.now t.event) (to_come w.doc.now r'.cursor)) (builder_in w s) ≡ built w.limits (events w.doc.now) empty
      here =
          let z : to_come r.doc.now r.cursor ≡ next t.place (event_in r.doc.now t.event) (to_come r.doc.now r'.cursor) = (rw (e ∙ ap Ok f) at yields).is in
          rw d.doc at (rw z at d.same)

      module _ {w' : Work} (s' : State) {v : Result (Unit {0}) Refusal} (a : After (step w.limits t.place (event_in w.doc.now t.event) (builder_in w s)) w s (takes t.event) w' (with_state s' v)) where
        pub drive-refused : {q : Refusal} → v ≡ Err q → refused_by q ≡ reading w.limits w.doc.now
        unfolding ending
        drive-refused {q} g =
            let z : refused q ≡ step w.limits t.place (event_in w.doc.now t.event) (builder_in w s) = (rw g at a).is in
            rw (← here, built-refused w.limits t.place (event_in w.doc.now t.event) (to_come w.doc.now r'.cursor) (builder_in w s) q (sym z)) refl

        pub drive-on : {u : Unit {0}} → v ≡ Ok u → Driving r' w' s'
        drive-on g =
            let b = rw g at a in
            let z : on (builder_in w' s') ≡ step w.limits t.place (event_in w.doc.now t.event) (builder_in w s) = b.is in
            let dd : w'.doc.now ≡ w.doc.now = ap (λ x. x.now) b.same.doc in
            let rd : r'.doc.now ≡ w.doc.now = ap (λ x. x.now) yields.doc ∙ d.doc in
            record {
              doc = rd ∙ sym dd;
              sound = b.sound d.sound.lent.document;
              used = omega (arith, b.used, d.used, moves.grows);
              cursor = rw dd inside;
              same =
                  subst (λ (l : Limits). built l (to_come r'.doc.now r'.cursor) (builder_in w' s') ≡ built l (events w'.doc.now) empty) (sym b.same.limits)
                  (subst (λ (x : List ℕ). built w.limits (to_come x r'.cursor) (builder_in w' s') ≡ built w.limits (events w'.doc.now) empty) (sym rd)
                  (subst (λ (x : List ℕ). built w.limits (to_come w.doc.now r'.cursor) (builder_in w' s') ≡ built w.limits (events x) empty) (sym dd)
                  (sym (built-on w.limits t.place (event_in w.doc.now t.event) (to_come w.doc.now r'.cursor) (builder_in w s) (builder_in w' s') (sym z)) ∙ here)));
            }

-- by the buffers as they were at first
pub drive-lent : {w₀ w : Work} → Same w₀ w → {l : Limits} → w₀.limits ≡ l → {doc : List ℕ} → w₀.doc.now ≡ doc → {x : Whole} → x ≡ reading w.limits w.doc.now → x ≡ reading l doc
drive-lent {w = w} s {l} f {doc} d {x} e =
    e
    ∙ ap (λ (y : Limits). reading y w.doc.now) (s.limits ∙ f)
    ∙ ap (λ (y : List ℕ). reading l y) (ap (λ y. y.now) s.doc ∙ d)
