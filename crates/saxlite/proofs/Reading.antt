-- Laws of the reader: what it yields at a cursor, and that it moves on.
use Rattle.std.proofs.Common.{Option, Some, None, Result, Ok, Err, ◌≡◌, refl, ap, ◌∙◌, false, List, ℕ, ◌≤◌, arith, length, rules}
use Rattle.refusals.specs.declared.Refusal.{Refusal}
use Rattle.saxlite.specs.internal.Passing.{is_silent, Passed, PassedAll}
use Rattle.saxlite.specs.Reader.{to_come, Yields}
use Rattle.saxlite.specs.internal.Moving.{bare, owing, Here, Asked, Advances}
use Rattle.saxlite.specs.Events.{events_from}
use Rattle.saxlite.specs.declared.event.Event.TheVariants.{Close}
use Rattle.saxlite.specs.declared.event.Owed.{Owed}
use Rattle.saxlite.specs.declared.event.Cursor.{Cursor}
use Rattle.saxlite.specs.declared.event.Read.{Read}
use Rattle.saxlite.specs.declared.reader.Reader.{Reader}
use Rattle.saxlite.proofs.Following.{from_end}

module _ (doc : List ℕ) (c : Cursor) where
  -- an owed close
  pub asked-owed : {o : Owed} → c.owed ≡ Some o → {r : Read} → r ≡ bare (Close o.name) o.element o.place c.at → Asked doc c (Ok (Some r))
  asked-owed t e =
      rw e
      (record {
        is = rw t refl;
        moves = record { grows = omega arith; less = omega (arith, ap owing t); sound = λ h. record { within = h.within; owed = tt }; inside = tt; closes = λ h. rw t at h; owes = tt; element = λ h. rw t at h; noted = tt };
      })

  -- where none is owed, past markup that is no event
  module _ (t : c.owed ≡ None) where
    come : to_come doc c ≡ events_from doc c.at
    come = rw t refl

    pub asked-broken : {p : Result ℕ Refusal} → PassedAll doc c.at p → {q : Refusal} → p ≡ Err q → Asked doc c (Err q)
    asked-broken a e = record { is = come ∙ (rw e at a).broken; moves = tt }

    module _ {p : Result ℕ Refusal} (a : PassedAll doc c.at p) {i : ℕ} (e : p ≡ Ok i) where
      passed : Passed doc c.at i × (is_silent doc i ≡ false)
      passed = (rw e at a).on

      pub passed-loud : is_silent doc i ≡ false
      passed-loud = passed.1

      pub asked-end : length doc ≤ i → Asked doc c (Ok None)
      asked-end h = record { is = come ∙ passed.0.is ∙ from_end doc h; moves = tt }

      module _ {h : Result Read Refusal} (x : Here (events_from doc i) doc i h) where
        pub asked-bad : {q : Refusal} → h ≡ Err q → Asked doc c (Err q)
        asked-bad f = record { is = come ∙ passed.0.is ∙ (rw f at x).is; moves = tt }

        pub asked-read : {r : Read} → h ≡ Ok r → Asked doc c (Ok (Some r))
        asked-read {r} f =
            let m = (rw f at x).moves in
            let z : owing c.owed ≡ 0 = ap owing t in
            record {
              is = come ∙ passed.0.is ∙ (rw f at x).is;
              moves =
                  record {
                    grows = omega (arith, passed.0.forward, m.grows);
                    less = omega (arith, passed.0.forward, m.less, z);
                    sound = λ l. m.sound (record { within = passed.0.within l.within; owed = tt });
                    inside = m.inside;
                    closes = rw t m.closes;
                    owes = m.owes;
                    element = rw t m.element;
                    noted = m.noted;
                  };
            }

-- a reader, by what is read at its cursor
module _ {r r' : Reader} {a : Result (Option Read) Refusal} (x : Asked r.doc.now r.cursor a) (d : r'.doc ≡ r.doc) where
  pub yields-bad : {q : Refusal} → a ≡ Err q → r'.cursor ≡ r.cursor → Yields r r' (Err q)
  yields-bad e c = record { doc = d; is = (rw e at x).is; stays = c }

  pub yields-none : {o : Option Read} → a ≡ Ok o → o ≡ None → r'.cursor ≡ r.cursor → Yields r r' (Ok None)
  yields-none e f c = record { doc = d; is = (rw (e ∙ ap Ok f) at x).is; stays = c }

  pub yields-told : {o : Option Read} → a ≡ Ok o → {k : Read} → o ≡ Some k → r'.cursor ≡ k.cursor → Yields r r' (Ok (Some k.told))
  yields-told e f c =
      let y = rw (e ∙ ap Ok f) at x in
      record { doc = d; is = y.is ∙ rw c refl; stays = tt }

-- and that it has moved on
module _ {doc : List ℕ} {c : Cursor} {a : Result (Option Read) Refusal} (x : Asked doc c a) where
  pub advances-told : {o : Option Read} → a ≡ Ok o → {k : Read} → o ≡ Some k → {c' : Cursor} → c' ≡ k.cursor → Advances doc c c' (Ok (Some k.told))
  advances-told e f g = let y = rw (e ∙ ap Ok f) at x in rw g y.moves

pub ruleset reading = (asked-owed, asked-broken, passed-loud, asked-end, asked-bad, asked-read, yields-bad, yields-none, yields-told, advances-told, rules)
