-- Laws of skipping markup that is no event; each premise is the result of a call or a test.
use Rattle.std.proofs.Common.{Option, Some, Result, Ok, Err, ◌≡◌, refl, sym, ap, ◌∙◌, Bool, true, false, List, [], ◌∷◌, ◌++◌, ℕ, ◌+◌, ◌-◌, ◌≤◌, ◌<◌, arith, eqb, ltb, length, drop, drop-drop, rules, eqb-true, ltb-true, ltb-false}
use Rattle.texts.specs.Choice.{◌or◌}
use Rattle.texts.specs.Text.{ascii, starts_with}
use Rattle.texts.proofs.Choosing.{by-test}
use Rattle.texts.proofs.Comparing.{starts-yes, starts-no, starts-append}
use Rattle.refusals.specs.declared.Refusal.{Refusal}
use Rattle.refusals.specs.declared.Refusal.TheVariants.{OpenComment, OpenInstruction, OpenDeclaration}
use Rattle.tags.specs.Find.{find_from}
use Rattle.tags.proofs.Searching.{stands-within, found_from, found_inside}
use Rattle.saxlite.specs.Event.{broken}
use Rattle.saxlite.specs.Events.{past, past_end, events_at, events_from}
use Rattle.saxlite.specs.internal.Passing.{Passed, is_silent, PassedSome, PassedAll, Stands, FoundAt, FirstAt, EndsAt, EndPassed}
use Rattle.saxlite.proofs.Finding.{scan-found}
use Rattle.saxlite.proofs.Following.{from-on}

-- ---- what stands at a position, by its first bytes

pub front-not : (a b u : List ℕ) → starts_with a u ≡ false → starts_with (a ++ b) u ≡ false
front-not a b u f = starts-append a b u ∙ rw f refl

-- of two texts of which one stands, and whose second bytes differ, the other does not
pub second-differs : (x y z : ℕ) (more u : List ℕ) → eqb z y ≡ false → starts_with (x ∷ y ∷ []) u ≡ true → starts_with (x ∷ z ∷ more) u ≡ false
unfolding starts_with
second-differs x y z more [] n t = refl
second-differs x y z more (a ∷ []) n t = by-test (eqb a x) (λ e. starts-yes x a (z ∷ more) [] e) (λ f. starts-no x a (z ∷ more) [] f)
second-differs x y z more (a ∷ b ∷ u) n t =
    by-test (eqb a x)
    (λ e. let v : starts_with (y ∷ []) (b ∷ u) ≡ true = sym (starts-yes x a (y ∷ []) (b ∷ u) e) ∙ t in
    starts-yes x a (z ∷ more) (b ∷ u) e
    ∙ by-test (eqb b z)
    (λ g. absurd (let p : b ≡ z = eqb-true b z g in let w : starts_with (y ∷ []) (b ∷ u) ≡ false = starts-no y b [] u (rw p n) in let k : ◌≡◌ {A = ℕ} 0 1 = cc in omega arith))
    (λ g. starts-no z b more u g))
    (λ f. starts-no x a (z ∷ more) (b ∷ u) f)

pub or-false : (a b : Bool) → (a or b) ≡ false → (a ≡ false) × (b ≡ false)
or-false true b e = absurd (let z : ◌≡◌ {A = ℕ} 0 1 = cc in omega arith)
or-false false b e = (refl, e)

-- which markup is no event
module _ (doc : List ℕ) (at : ℕ) where
  pub silent-not : is_silent doc at ≡ false → (starts_with (ascii "<!") (drop at doc) ≡ false) × (starts_with (ascii "<?") (drop at doc) ≡ false)
  unfolding is_silent
  silent-not f = or-false _ _ f

  pub silent-first : {b : Bool} → b ≡ starts_with (ascii "<!") (drop at doc) → b ≡ true → true ≡ is_silent doc at
  unfolding is_silent
  silent-first e t = rw (← e, t)

  pub silent-second : {b : Bool} → b ≡ starts_with (ascii "<!") (drop at doc) → b ≡ false → {c : Bool} → c ≡ starts_with (ascii "<?") (drop at doc) → c ≡ is_silent doc at
  unfolding is_silent
  silent-second e f g = rw (← e, f) g

  pub silent-within : is_silent doc at ≡ true → at + 2 ≤ length doc
  silent-within t =
      by-test (starts_with (ascii "<!") (drop at doc))
      (λ y. stands-within (ascii "<!") doc at y (omega arith))
      (λ n. stands-within (ascii "<?") doc at (silent-second refl n refl ∙ t) (omega arith))

-- ---- the events behind it

module _ (doc : List ℕ) (at : ℕ) where
  comment-is : starts_with (ascii "<!--") (drop at doc) ≡ true → events_from doc at ≡ past (events_from doc) 3 (find_from (ascii "-->") doc (at + 4)) (OpenComment at)
  unfolding events_at past_end
  comment-is t = from-on doc (omega (arith, stands-within (ascii "<!--") doc at t (omega arith))) ∙ rw t refl

  instruction-is : starts_with (ascii "<?") (drop at doc) ≡ true → events_from doc at ≡ past (events_from doc) 2 (find_from (ascii "?>") doc (at + 2)) (OpenInstruction at)
  unfolding events_at past_end
  instruction-is t =
      from-on doc (omega (arith, stands-within (ascii "<?") doc at t (omega arith)))
      ∙ rw (second-differs 60 63 33 (ascii "--") (drop at doc) refl t, t) refl

  declaration-is : starts_with (ascii "<!--") (drop at doc) ≡ false → starts_with (ascii "<!") (drop at doc) ≡ true → events_from doc at ≡ past (events_from doc) 1 (find_from (ascii ">") doc (at + 2)) (OpenDeclaration at)
  unfolding events_at past_end
  declaration-is f t =
      from-on doc (omega (arith, stands-within (ascii "<!") doc at t (omega arith)))
      ∙ rw (f, second-differs 60 33 63 [] (drop at doc) refl t, t) refl

-- ---- several pieces skipped

pub passed-none : {doc : List ℕ} {at : ℕ} → Passed doc at at
passed-none = record { is = refl; forward = omega arith; within = λ h. h }

pub passed_then : {doc : List ℕ} {i j k : ℕ} → Passed doc i j → Passed doc j k → Passed doc i k
passed_then p q = record { is = p.is ∙ q.is; forward = omega (arith, p.forward, q.forward); within = λ h. q.within (p.within h) }

pub passed-broken : {doc : List ℕ} {i j : ℕ} {q : Refusal} → Passed doc i j → events_from doc j ≡ broken q → events_from doc i ≡ broken q
passed-broken p e = p.is ∙ e

-- by where it ends
module _ {doc : List ℕ} (n : ℕ) (needle : List ℕ) (len : n ≡ length needle) {at from : ℕ} (ahead : at < from) (inside : from ≤ length doc) (q : Refusal) (e : events_from doc at ≡ past (events_from doc) n (find_from needle doc from) q) where
  ends-at : {end : ℕ} → find_from needle doc from ≡ Some end → Passed doc at (end + n)
  unfolding past
  ends-at {end} f =
      record {
        is = e ∙ rw f refl;
        forward = omega (arith, found_from needle doc from end f);
        within = λ h. omega (arith, len, found_inside needle doc from end f inside);
      }

  some-past : {end : ℕ} → FoundAt needle doc from end → {r : Result ℕ Refusal} → EndPassed doc end n q r → PassedSome doc at r
  unfolding past
  some-past {end} f p =
      by-test (ltb end (length doc))
      (λ t. let h = ltb-true end (length doc) t in
      let s = f.is h in
      rw (p.past h) (record { on = (ends-at s, omega (arith, found_from needle doc from end s), omega (arith, len, found_inside needle doc from end s inside)); broken = tt }))
      (λ g. let h = ltb-false end (length doc) g in
      rw (p.refused h) (record { on = tt; broken = e ∙ rw (f.none h) refl }))

-- a comment is known by two pairs of bytes
pub pairs-stand : {doc : List ℕ} {at : ℕ} → Stands (ascii "<!") doc at true → {b : Bool} → Stands (ascii "--") doc (at + 2) b → Stands (ascii "<!--") doc at b
pairs-stand {doc} {at} p q =
    record { is = starts-append (ascii "<!") (ascii "--") (drop at doc) ∙ rw p.is (ap (starts_with (ascii "--")) (drop-drop 2 at doc) ∙ q.is) }

-- in a row; each b is the result of a comparison
module _ {doc : List ℕ} {at : ℕ} {o : Option ℕ} {end : ℕ} where
  pub comment-past : Stands (ascii "<!--") doc at true → EndsAt (ascii "-->") doc (at + 4) o → o ≡ Some end → Passed doc at (end + 3)
  comment-past t f s =
      let g = f.is s in
      ends-at 3 (ascii "-->") refl (omega arith) (stands-within (ascii "<!--") doc at t.is (omega arith)) _ (comment-is doc at t.is) (g.0.is g.1)

  pub declaration-past : Stands (ascii "<!") doc at true → Stands (ascii "--") doc (at + 2) false → FirstAt 62 doc (at + 2) o → o ≡ Some end → Passed doc at (end + 1)
  declaration-past t n f s =
      let g = f.is s in
      ends-at 1 (ascii ">") refl (omega arith) (stands-within (ascii "<!") doc at t.is (omega arith)) _ (declaration-is doc at ((pairs-stand t n).is) t.is) ((scan-found 62 doc (at + 2) g.0).is g.1)

  pub instruction-past : Stands (ascii "<?") doc at true → EndsAt (ascii "?>") doc (at + 2) o → o ≡ Some end → Passed doc at (end + 2)
  instruction-past t f s =
      let g = f.is s in
      ends-at 2 (ascii "?>") refl (omega arith) (stands-within (ascii "<?") doc at t.is (omega arith)) _ (instruction-is doc at t.is) (g.0.is g.1)

-- one piece; each b is the result of a comparison
module _ {doc : List ℕ} {at : ℕ} (t : is_silent doc at ≡ true) {b : Bool} (e : b ≡ starts_with (ascii "<!--") (drop at doc)) where
  pub comment-piece : b ≡ true → {end : ℕ} → FoundAt (ascii "-->") doc (at + 4) end → {r : Result ℕ Refusal} → EndPassed doc end 3 (OpenComment at) r → PassedSome doc at r
  comment-piece y f p =
      let c : starts_with (ascii "<!--") (drop at doc) ≡ true = sym e ∙ y in
      some-past 3 (ascii "-->") refl (omega arith) (stands-within (ascii "<!--") doc at c (omega arith)) _ (comment-is doc at c) f p

  module _ (n : b ≡ false) {c : Bool} (g : c ≡ starts_with (ascii "<?") (drop at doc)) where
    pub instruction-piece : c ≡ true → {end : ℕ} → FoundAt (ascii "?>") doc (at + 2) end → {r : Result ℕ Refusal} → EndPassed doc end 2 (OpenInstruction at) r → PassedSome doc at r
    instruction-piece y f p = some-past 2 (ascii "?>") refl (omega arith) (silent-within doc at t) _ (instruction-is doc at (sym g ∙ y)) f p

    pub declaration-piece : c ≡ false → {end : ℕ} → FoundAt (ascii ">") doc (at + 2) end → {r : Result ℕ Refusal} → EndPassed doc end 1 (OpenDeclaration at) r → PassedSome doc at r
    declaration-piece y f p =
        let d : starts_with (ascii "<!") (drop at doc) ≡ true =
        by-test (starts_with (ascii "<!") (drop at doc)) (λ z. z)
        (λ z. absurd (let w : false ≡ true = sym y ∙ silent-second doc at refl z g ∙ t in let k : ◌≡◌ {A = ℕ} 0 1 = cc in omega arith)) in
        some-past 1 (ascii ">") refl (omega arith) (silent-within doc at t) _ (declaration-is doc at (sym e ∙ n) d) f p

pub end-past : {doc : List ℕ} {end n : ℕ} {q : Refusal} → end < length doc → EndPassed doc end n q (Ok (end + n))
end-past h = record { past = λ l. refl; refused = λ l. absurd (omega arith) }

pub end-refused : {doc : List ℕ} {end n : ℕ} {q : Refusal} → length doc ≤ end → EndPassed doc end n q (Err q)
end-refused h = record { past = λ l. absurd (omega arith); refused = λ l. refl }

-- a row that goes on
pub row-past : {doc : List ℕ} {at i : ℕ} → is_silent doc at ≡ true → Passed doc at i → at < i → PassedSome doc at (Ok i)
row-past {doc} {at} t p h = record { on = (p, h, p.within (omega (arith, silent-within doc at t))); broken = tt }

-- ---- all of it

module _ {doc : List ℕ} {at i : ℕ} (p : Passed doc at i) where
  pub all-past : {b : Bool} → b ≡ is_silent doc i → b ≡ false → PassedAll doc at (Ok i)
  all-past e f = record { on = (p, sym e ∙ f); broken = tt }

  module _ {r : Result ℕ Refusal} (s : PassedSome doc i r) where
    pub all-broken : {q : Refusal} → r ≡ Err q → PassedAll doc at (Err q)
    all-broken e = record { on = tt; broken = p.is ∙ (rw e at s).broken }

    pub all-on : {j : ℕ} → r ≡ Ok j → Passed doc at j
    all-on e = passed_then p (rw e at s).on.0

    pub all-less : {j : ℕ} → r ≡ Ok j → length doc - j < length doc - i
    all-less e = let h = (rw e at s).on in omega (arith, h.1, h.2)

pub ruleset passing = (passed-none, passed_then, pairs-stand, comment-past, declaration-past, instruction-past, comment-piece, instruction-piece, declaration-piece, end-past, end-refused, row-past, silent-first, silent-second, silent-within, all-past, all-broken, all-on, all-less, rules)
