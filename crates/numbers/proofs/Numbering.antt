-- Laws of numbers: what the loop over the digits keeps, and how a text's front decides.
use Rattle.std.proofs.Common.{◌≡◌, refl, sym, ap, ◌∙◌, Bool, true, false, List, [], ◌∷◌, Option, None, Some, ℕ, suc, ◌+◌, ◌-◌, ◌*◌, ◌≤◌, ◌<◌, add-one, arith, length, take, drop, get_or, drop_of_length-le, drop-cons, take_all, le-leb, eq-eqb, ne_eqb}
use borrow.Author.Tests.{lt-leb}
use Rattle.texts.specs.Choice.{◌and◌}
use Rattle.texts.specs.Text.{piece}
use Rattle.numbers.specs.Numbers.{is_digit, all_digits, value_from, bounded_from, digits_of, unsigned, number_of}

-- ---- a digit

digit-yes : (b : ℕ) → 48 ≤ b → b ≤ 57 → is_digit b ≡ true
unfolding is_digit
digit-yes b h k = rw (le-leb 48 b h, le-leb b 57 k)

digit-below : (b : ℕ) → b < 48 → is_digit b ≡ false
unfolding is_digit
digit-below b h = rw (lt-leb 48 b h)

digit-above : (b : ℕ) → 57 < b → is_digit b ≡ false
unfolding is_digit
digit-above b h =
    let k : 48 ≤ b = omega arith in
    rw (le-leb 48 b k, lt-leb b 57 h)

-- ---- the digits

and_no : (a : Bool) → (a and false) ≡ false
and_no true = refl
and_no false = refl

-- once a value is above a number it stays above
value-least : (n : ℕ) (s : List ℕ) → n ≤ value_from n s
unfolding value_from
value-least n [] = omega arith
value-least n (b ∷ s) = omega (arith, value-least (10 * n + (b - 48)) s)

bounded-on : (n b : ℕ) (s : List ℕ) → is_digit b ≡ true → bounded_from n (b ∷ s) ≡ bounded_from (10 * n + (b - 48)) s
unfolding bounded_from all_digits value_from
bounded-on n b s t = rw t

bounded-not : (n b : ℕ) (s : List ℕ) → is_digit b ≡ false → bounded_from n (b ∷ s) ≡ None
unfolding bounded_from all_digits
bounded-not n b s t = rw t

bounded-above : (n : ℕ) (s : List ℕ) → 4294967295 < n → bounded_from n s ≡ None
unfolding bounded_from
bounded-above n s h =
    let k : 4294967295 < value_from n s = omega (arith, value-least n s) in
    rw (lt-leb (value_from n s) 4294967295 k, and_no (all_digits s))

bounded-end : (n : ℕ) → n ≤ 4294967295 → bounded_from n [] ≡ Some n
unfolding bounded_from all_digits value_from
bounded-end n h = rw (le-leb n 4294967295 h)

digits-some : (s : List ℕ) → (length s ≡ 0 → ⊥) → digits_of s ≡ bounded_from 0 s
unfolding digits_of
digits-some [] h = absurd (h refl)
digits-some (b ∷ s) h = refl

pub digits-none : (s : List ℕ) → length s ≡ 0 → None ≡ digits_of s
unfolding digits_of
digits-none [] h = refl
digits-none (b ∷ s) h = absurd (omega arith)

-- a loop over the digits of s stands at i, and those before it have the value n
pub record Counting (s : List ℕ) (i n : ℕ) : Type 0 where
  pub rest : bounded_from n (drop i s) ≡ digits_of s
  pub bound : n ≤ 4294967295

pub counting-start : (s : List ℕ) → (length s ≡ 0 → ⊥) → Counting s 0 0
counting-start s h = record { rest = sym (digits-some s h); bound = omega arith }

module _ {s : List ℕ} {i n : ℕ} (inv : Counting s i n) where
  pub counting-end : length s ≤ i → Some n ≡ digits_of s
  counting-end h = (sym (bounded-end n inv.bound) ∙ (rw (drop_of_length-le s h) at inv.rest))

  module _ (h : i < length s) where
    next : bounded_from n (get_or s i 0 ∷ drop (suc i) s) ≡ digits_of s
    next = rw (drop-cons s i 0) at inv.rest

    pub counting-below : get_or s i 0 < 48 → None ≡ digits_of s
    counting-below k = sym (bounded-not n _ (drop (suc i) s) (digit-below _ k)) ∙ next

    pub counting-above : 57 < get_or s i 0 → None ≡ digits_of s
    counting-above k = sym (bounded-not n _ (drop (suc i) s) (digit-above _ k)) ∙ next

    module _ (k : 48 ≤ get_or s i 0) (l : get_or s i 0 ≤ 57) {d : ℕ} (e : d ≡ get_or s i 0 - 48) where
      on : bounded_from (10 * n + d) (drop (suc i) s) ≡ digits_of s
      on = rw e (sym (bounded-on n _ (drop (suc i) s) (digit-yes _ k l)) ∙ next)

      pub counting_more : 4294967295 < 10 * n + d → None ≡ digits_of s
      counting_more m = sym (bounded-above (10 * n + d) (drop (suc i) s) m) ∙ on

      pub counting-on : 10 * n + d ≤ 4294967295 → Counting s (i + 1) (10 * n + d)
      counting-on m = record { rest = rw add-one on; bound = m }

-- ---- the front

pub number-empty : (s : List ℕ) → length s ≡ 0 → Some 0 ≡ number_of (Some s)
unfolding number_of
number-empty [] h = refl
number-empty (b ∷ s) h = absurd (omega arith)

pub number-signed : (s : List ℕ) {t : List ℕ} {r : Option ℕ} → (length s ≡ 0 → ⊥) → get_or s 0 0 ≡ 43 → t ≡ piece s 1 (length s) → r ≡ digits_of t → r ≡ number_of (Some s)
unfolding number_of unsigned
number-signed [] h e et er = absurd (h refl)
number-signed (b ∷ s) h e et er =
    let w : piece (b ∷ s) 1 (length (b ∷ s)) ≡ s = take_all (length (b ∷ s)) s (omega arith) in
    er ∙ ap (λ u. digits_of u) (et ∙ w) ∙ sym (rw (eq-eqb b 43 e))

pub number-plain : (s : List ℕ) {r : Option ℕ} → (length s ≡ 0 → ⊥) → (get_or s 0 0 ≡ 43 → ⊥) → r ≡ digits_of s → r ≡ number_of (Some s)
unfolding number_of unsigned
number-plain [] h n er = absurd (h refl)
number-plain (b ∷ s) h n er = er ∙ sym (rw (ne_eqb b 43 n))

-- ---- one digit

digit-alone : (b : ℕ) → 48 ≤ b → b ≤ 57 → Some (b - 48) ≡ number_of (Some (b ∷ []))
unfolding digits_of
digit-alone b h k =
    let z : 10 * 0 + (b - 48) ≡ b - 48 = omega arith in
    let e : bounded_from 0 (b ∷ []) ≡ Some (10 * 0 + (b - 48)) = bounded-on 0 b [] (digit-yes b h k) ∙ bounded-end (10 * 0 + (b - 48)) (omega arith) in
    number-plain (b ∷ []) (λ l. omega arith) (λ l. omega arith) ((sym (e ∙ ap Some z)))

module _ (s : List ℕ) (at : ℕ) where
  pub digit-none : (n : ℕ) → None ≡ Some n → None ≡ number_of (Some (piece s at 1))
  digit-none n e = absurd (let z : ◌≡◌ {A = ℕ} 0 1 = cc in omega arith)

  pub digit-said : {b : ℕ} → at < length s → b ≡ get_or s at 0 → 48 ≤ b → b ≤ 57 → (n : ℕ) → Some (b - 48) ≡ Some n → Some (b - 48) ≡ number_of (Some (piece s at 1))
  digit-said {b} h e k l n v =
      let p : piece s at 1 ≡ b ∷ [] = ap (take 1) (drop-cons s at 0 h) ∙ ap (λ x. x ∷ []) (sym e) in
      digit-alone b k l ∙ ap (λ t. number_of (Some t)) (sym p)
