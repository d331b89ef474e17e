-- Laws of the prefix cut: a text is matched part by part.
use Rattle.std.proofs.Common.{◌≡◌, refl, sym, ◌∙◌, Option, Some, None, Bool, true, false, List, [], ◌∷◌, ◌++◌, ℕ, zero, suc, ◌+◌, ◌-◌, ◌≤◌, ◌<◌, add_assoc, add-one, arith, length, get_or, drop, length-append, length-drop, drop_of_length-le, drop-cons, drop-drop, take_all, rules, eq-eqb, ne_eqb}
use Rattle.texts.specs.Text.{ascii, piece, starts_with}
use Rattle.texts.proofs.Choosing.{by-test, pick_yes, pick_no}
use Rattle.texts.proofs.Comparing.{starts-append, starts-yes, starts-no}
use Rattle.printing.specs.Repeated.{up_to}
use Rattle.classes.specs.Letters.{raised}
use Rattle.names.specs.Conversions.{cased_at, cased, breaks_screaming, camel_to_screaming_snake, prefix_of, without_prefix}
use Rattle.names.specs.internal.Prefix.{past_text}

-- what a position of the enum's name gives
abbrev screams : List ℕ → ℕ → List ℕ
screams = cased_at breaks_screaming raised

-- ---- part by part

module _ (a b s : List ℕ) (j : ℕ) where
  past-none-append : past_text a s j ≡ None → past_text (a ++ b) s j ≡ None
  unfolding past_text
  past-none-append e =
      by-test (starts_with a (drop j s))
      (λ t. absurd (let z : ◌≡◌ {A = ℕ} 0 1 = cc (pick_yes (starts_with a (drop j s)) (Some (j + length a)) None t) in omega arith))
      (λ f. rw (starts-append a b (drop j s), f))

  past-append : {k : ℕ} → past_text a s j ≡ Some k → past_text (a ++ b) s j ≡ past_text b s k
  unfolding past_text
  past-append {k} e =
      by-test (starts_with a (drop j s))
      (λ t.
      let z : j + length a ≡ k = cc (pick_yes (starts_with a (drop j s)) (Some (j + length a)) None t) in
      rw (starts-append a b (drop j s), t, drop-drop, z, length-append, ← add_assoc, z))
      (λ f. absurd (let z : ◌≡◌ {A = ℕ} 0 1 = cc (pick_no (starts_with a (drop j s)) (Some (j + length a)) None f) in omega arith))

-- ---- a byte

module _ (s : List ℕ) (j b : ℕ) where
  pub past-byte-out : length s ≤ j → None ≡ past_text (b ∷ []) s j
  unfolding past_text starts_with
  past-byte-out h = rw (drop_of_length-le s h)

  module _ (h : j < length s) where
    pub past-byte-yes : get_or s j 0 ≡ b → Some (j + 1) ≡ past_text (b ∷ []) s j
    unfolding past_text starts_with
    past-byte-yes e = sym (pick_yes (starts_with (b ∷ []) (drop j s)) _ _ (rw (drop-cons s j 0) (starts-yes b (get_or s j 0) [] (drop (suc j) s) (eq-eqb _ b e))))

    pub past-byte-no : (get_or s j 0 ≡ b → ⊥) → None ≡ past_text (b ∷ []) s j
    unfolding past_text starts_with
    past-byte-no n = sym (pick_no (starts_with (b ∷ []) (drop j s)) _ _ (rw (drop-cons s j 0) (starts-no b (get_or s j 0) [] (drop (suc j) s) (ne_eqb _ b n))))

-- ---- a position of the enum's name: v is its byte as shown, d whether a `_` goes before it

module _ (s n : List ℕ) (i j : ℕ) {v : ℕ} (ev : v ≡ raised (get_or n i 0)) {d : Bool} (ed : d ≡ breaks_screaming n i) where
  pub past-plain : d ≡ false → {r : Option ℕ} → r ≡ past_text (v ∷ []) s j → r ≡ past_text (screams n i) s j
  unfolding cased_at
  past-plain t e = rw (← ev, ← ed, t) e

  module _ (t : d ≡ true) {q : Option ℕ} (eq : q ≡ past_text (95 ∷ []) s j) where
    pub past-broken : {k : ℕ} → q ≡ Some k → {r : Option ℕ} → r ≡ past_text (v ∷ []) s k → r ≡ past_text (screams n i) s j
    unfolding cased_at
    past-broken f e = rw (← ev, ← ed, t) (e ∙ sym (past-append (95 ∷ []) (v ∷ []) s j (sym eq ∙ f)))

    pub past-unbroken : q ≡ None → None ≡ past_text (screams n i) s j
    unfolding cased_at
    past-unbroken f = rw (← ev, ← ed, t) (sym (past-none-append (95 ∷ []) (v ∷ []) s j (sym eq ∙ f)))

-- ---- the whole prefix: j is past the first i positions

pub record Passing (s n : List ℕ) (j i : ℕ) : Type 0 where
  pub past : past_text (up_to (screams n) i) s 0 ≡ Some j
  pub bound : i ≤ length n

pub passing-start : {s n : List ℕ} → Passing s n 0 0
unfolding past_text starts_with up_to
passing-start = record { past = refl; bound = omega arith }

none_more : (f : ℕ → List ℕ) (s : List ℕ) (i m : ℕ) → past_text (up_to f i) s 0 ≡ None → past_text (up_to f (i + m)) s 0 ≡ None
unfolding up_to
none_more f s i zero e = let z : i + 0 ≡ i = omega arith in rw z e
none_more f s i (suc m) e =
    let z : i + suc m ≡ suc (i + m) = omega arith in
    rw z (past-none-append (up_to f (i + m)) (f (i + m)) s 0 (none_more f s i m e))

module _ {s n : List ℕ} {j i : ℕ} (inv : Passing s n j i) where
  module _ (h : i < length n) {q : Option ℕ} (e : q ≡ past_text (screams n i) s j) where
    pub passing-on : {k : ℕ} → q ≡ Some k → Passing s n k (i + 1)
    unfolding up_to
    passing-on f =
        record {
          past = rw add-one (past-append (up_to (screams n) i) (screams n i) s 0 inv.past ∙ sym e ∙ f);
          bound = omega arith;
        }

    pub passing-not : q ≡ None → None ≡ past_text (prefix_of n) s 0
    unfolding prefix_of camel_to_screaming_snake cased up_to
    passing-not f =
        let here : past_text (up_to (screams n) (suc i)) s 0 ≡ None = past-append (up_to (screams n) i) (screams n i) s 0 inv.past ∙ sym e ∙ f in
        let z : suc i + (length n - suc i) ≡ length n = omega arith in
        sym (past-none-append (up_to (screams n) (length n)) (ascii "_") s 0 (rw z at (none_more (screams n) s (suc i) (length n - suc i) here)))

  pub passing-end : length n ≤ i → {r : Option ℕ} → r ≡ past_text (95 ∷ []) s j → r ≡ past_text (prefix_of n) s 0
  unfolding prefix_of camel_to_screaming_snake cased
  passing-end h e =
      let z : i ≡ length n = omega (arith, inv.bound) in
      e ∙ sym (past-append (up_to (screams n) (length n)) (ascii "_") s 0 (rw z at inv.past))

-- ---- the cut

module _ (s n : List ℕ) {q : Option ℕ} (e : q ≡ past_text (prefix_of n) s 0) where
  pub cut-none : q ≡ None → s ≡ without_prefix s n
  unfolding past_text without_prefix
  cut-none f =
      by-test (starts_with (prefix_of n) s)
      (λ t. absurd (let z : ◌≡◌ {A = ℕ} 0 1 = cc (pick_yes (starts_with (prefix_of n) s) (Some (0 + length (prefix_of n))) None t) in omega arith))
      (λ u. rw u)

  pub cut_at : {k : ℕ} → q ≡ Some k → {w : List ℕ} → w ≡ piece s k (length s) → w ≡ without_prefix s n
  unfolding past_text without_prefix
  cut_at {k} f {w} g =
      by-test (starts_with (prefix_of n) s)
      (λ t.
      let z : k ≡ 0 + length (prefix_of n) = cc (pick_yes (starts_with (prefix_of n) s) (Some (0 + length (prefix_of n))) None t) in
      let y : k ≡ length (prefix_of n) = omega arith in
      let l : length (drop k s) ≤ length s = rw length-drop (omega arith) in
      rw (t, ← y) (g ∙ take_all (length s) (drop k s) l))
      (λ u. absurd (let z : ◌≡◌ {A = ℕ} 0 1 = cc (pick_no (starts_with (prefix_of n) s) (Some (0 + length (prefix_of n))) None u) in omega arith))

pub ruleset cutting = (past-byte-out, past-byte-yes, past-byte-no, past-plain, past-broken, past-unbroken, passing-start, passing-on, passing-not, passing-end, cut-none, cut_at, rules)
