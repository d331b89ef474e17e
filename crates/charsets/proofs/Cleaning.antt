-- Laws of the charset test: punctuation, one byte and eight at once; what is left; the names.
use Rattle.std.proofs.Common.{◌≡◌, refl, sym, ap, ◌∙◌, Bool, true, false, ◌&&◌, List, [], ◌∷◌, ◌++◌, append_assoc, append-nil, ℕ, suc, ◌+◌, ◌≤◌, ◌<◌, add-one, arith, leb, T, length, take, drop, get_or, set, length-append, length-set, drop_of_length-le, drop-cons, take-suc, length-take-le, get_or-set_same, leb-true}
use lib.Seq.{take-set-le}
use Rattle.texts.specs.Choice.{◌and◌}
use Rattle.texts.specs.Text.{piece}
use Rattle.texts.specs.Lists.{among}
use Rattle.texts.specs.Trim.{trimmed_front, trimmed_back, trimmed}
use Rattle.texts.proofs.Choosing.{is_true, and_left, and_right}
use Rattle.texts.proofs.Comparing.{same-lengths}
use Rattle.classes.specs.Letters.{lowered}
use Rattle.charsets.specs.Charset.{is_punctuation, cleaned, charsets, compatible}
use Rattle.charsets.specs.internal.Names.{is_name}
use Rattle.charsets.specs.internal.Letters.{Passed}

-- ---- punctuation is passed

clean-mark : (b : ℕ) (s : List ℕ) → is_punctuation b ≡ true → cleaned (b ∷ s) ≡ cleaned s
unfolding cleaned
clean-mark b s t = rw t

clean-kept : (b : ℕ) (s : List ℕ) → is_punctuation b ≡ false → cleaned (b ∷ s) ≡ lowered b ∷ cleaned s
unfolding cleaned
clean-kept b s t = rw t

clean-on : (s : List ℕ) (i : ℕ) → i < length s → is_punctuation (get_or s i 0) ≡ true → cleaned (drop (i + 1) s) ≡ cleaned (drop i s)
clean-on s i h t = rw (add-one, drop-cons s i 0) (sym (clean-mark (get_or s i 0) (drop (suc i) s) t))

both : (a b : Bool) → (a && b) ≡ true → (a ≡ true) × (b ≡ true)
both true b t = (refl, t)
both false b t = cc

-- k bytes are punctuation where a says so, and one more where b does
pub run-on : (s : List ℕ) (i k : ℕ) → i + k < length s → (a : Bool) {b : Bool} → (a ≡ true → cleaned (drop (i + k) s) ≡ cleaned (drop i s)) → b ≡ is_punctuation (get_or s (i + k) 0)
    → (a && b) ≡ true → cleaned (drop (i + (k + 1)) s) ≡ cleaned (drop i s)
run-on s i k h a {b} p e t =
    let z : i + k + 1 ≡ i + (k + 1) = omega arith in
    let q = both a b t in
    rw z at (clean-on s (i + k) h (sym e ∙ q.1)) ∙ p q.0

pub passed_start : {s : List ℕ} {from : ℕ} → from ≤ length s → Passed s from from
passed_start h = record { rest = refl; within = h; on = omega arith }

pub passed_on : {s : List ℕ} {from i : ℕ} → Passed s from i → i + 8 ≤ length s → {b : Bool} → (b ≡ true → cleaned (drop (i + 8) s) ≡ cleaned (drop i s)) → b ≡ true → Passed s from (i + 8)
passed_on p h e t = record { rest = e t ∙ p.rest; within = h; on = omega (arith, p.on) }

-- ---- cleaning

-- a loop that cleans s stands at i, and the first n of out are what is left of the bytes before it
pub record Cleaning (s out : List ℕ) (i n : ℕ) : Type 0 where
  pub rest : take n out ++ cleaned (drop i s) ≡ cleaned s
  pub few : n ≤ 13
  pub room : 13 ≤ length out

pub cleaning-start : {s out : List ℕ} → 13 ≤ length out → Cleaning s out 0 0
cleaning-start h = record { rest = refl; few = omega arith; room = h }

module _ {s out : List ℕ} {i n : ℕ} (inv : Cleaning s out i n) where
  module _ (h : i < length s) {m : Bool} (e : m ≡ is_punctuation (get_or s i 0)) where
    pub cleaning-mark : m ≡ true → {r : ℕ} → Passed s (i + 1) r → Cleaning s out r n
    cleaning-mark v p = record { rest = ap (λ l. take n out ++ l) (p.rest ∙ clean-on s i h (sym e ∙ v)) ∙ inv.rest; few = inv.few; room = inv.room }

    module _ (v : m ≡ false) where
      kept : take n out ++ (lowered (get_or s i 0) ∷ cleaned (drop (suc i) s)) ≡ cleaned s
      kept = ap (λ l. take n out ++ l) (sym (rw (drop-cons s i 0) (clean-kept (get_or s i 0) (drop (suc i) s) (sym e ∙ v)))) ∙ inv.rest

      pub cleaning-more : 13 ≤ n → 13 < length (cleaned s)
      cleaning-more k =
          let a = length-take-le n out (omega (arith, inv.few, inv.room)) in
          let l = sym (ap length kept) ∙ length-append (take n out) (lowered (get_or s i 0) ∷ cleaned (drop (suc i) s)) in
          omega arith

      pub cleaning-on : n < 13 → {x : ℕ} → x ≡ lowered (get_or s i 0) → Cleaning s (set out n x) (i + 1) (n + 1)
      cleaning-on k {x} f =
          let b : n < length out = omega (arith, inv.room) in
          let z : length (set out n x) ≡ length out = length-set out n x in
          let a : take (suc n) (set out n x) ≡ take n out ++ (x ∷ []) = take-suc (set out n x) n 0 (omega arith) ∙ rw (take-set-le n out n x (omega arith), get_or-set_same out n x 0 b) in
          record {
            rest = rw (add-one, add-one, a, append_assoc, f) kept;
            few = omega arith;
            room = omega (arith, inv.room);
          }

  pub cleaning-end : length s ≤ i → take n out ≡ cleaned s
  unfolding cleaned
  cleaning-end h = sym (append-nil (take n out)) ∙ (rw (drop_of_length-le s h) at inv.rest)

-- ---- the names

pub name-empty : (w : List ℕ) → length w ≡ 0 → is_name w ≡ true
unfolding is_name
name-empty [] h = refl
name-empty (b ∷ w) h = absurd (omega arith)

pub name-filled : (w : List ℕ) → (length w ≡ 0 → ⊥) → is_name w ≡ among w charsets
unfolding is_name
name-filled [] h = absurd (h refl)
name-filled (b ∷ w) h = refl

pub ruleset names = (name-empty, name-filled)

-- ---- the test

fit : List (List ℕ) → Bool
fit [] = true
fit (v ∷ l) = leb (length v) 13 and fit l

none-long : (w : List ℕ) (l : List (List ℕ)) → T (fit l) → 13 < length w → among w l ≡ false
unfolding among fit
none-long w [] t h = refl
none-long w (v ∷ l) t h =
    let q = leb-true (length v) 13 (is_true _ (and_left (leb (length v) 13) (fit l) t)) in
    rw (← same-lengths w v (λ e. omega arith)) (none-long w l (and_right (leb (length v) 13) (fit l) t) h)

long-none : (w : List ℕ) → 13 < length w → is_name w ≡ false
unfolding is_name fit
long-none [] h = absurd (omega arith)
long-none (b ∷ w) h = none-long (b ∷ w) charsets tt h

pub compatible-none : (s : List ℕ) → length s ≡ 0 → true ≡ compatible s
unfolding compatible trimmed trimmed_front trimmed_back cleaned
compatible-none [] h = refl
compatible-none (b ∷ s) h = absurd (omega arith)

module _ (s : List ℕ) {w : List ℕ} (e : w ≡ trimmed s) where
  named : compatible s ≡ is_name (cleaned w)
  unfolding compatible is_name
  named = rw e

  pub compatible-long : 13 < length (cleaned w) → false ≡ compatible s
  compatible-long h = sym (named ∙ long-none (cleaned w) h)

  pub compatible-short : (out : List ℕ) (n : ℕ) → take n out ≡ cleaned w → {v : List ℕ} → v ≡ piece out 0 n → {r : Bool} → r ≡ is_name v → r ≡ compatible s
  compatible-short out n l f g = g ∙ ap is_name (f ∙ l) ∙ sym named
