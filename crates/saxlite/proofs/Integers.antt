-- Laws of what begins and ends markup, compared as integers.
use Rattle.std.proofs.Common.{◌≡◌, refl, sym, ap, ◌∙◌, true, List, [], ◌∷◌, ℕ, arith, T, eqb, lit<, length, take, drop, eq-eqb, ne_eqb}
use Rattle.texts.specs.Text.{ascii, piece, starts_with}
use Rattle.texts.proofs.Choosing.{by-test}
use Rattle.texts.proofs.Comparing.{starts-yes, front-is}
use lib.Pow.{are_bytes}
use Rattle.swar.specs.Word.{word_of, IsHalf}
use Rattle.swar.proofs.Digits.{word-tells, bytes-are}
use Rattle.swar.specs.internal.Standing.{ShortText}
use Rattle.saxlite.specs.internal.Passing.{Stands}

-- ---- four bytes

front-stands : (t u : List ℕ) → take (length t) u ≡ t → starts_with t u ≡ true
unfolding starts_with
front-stands [] u e = refl
front-stands (n ∷ t) [] e = absurd (let z : ◌≡◌ {A = ℕ} 0 1 = omega (arith, ap length e) in omega arith)
front-stands (n ∷ t) (x ∷ u) e =
    let p : x ≡ n = cc in
    let q : take (length t) u ≡ t = cc in
    starts-yes n x t u (eq-eqb x n p) ∙ front-stands t u q

module _ (t : List ℕ) (b : T (are_bytes t)) (four : length t ≡ 4) (doc : List ℕ) (i : ℕ) {w : ℕ} (h : IsHalf (piece doc i 4) w) where
  four-stand : eqb w (word_of t) ≡ starts_with t (drop i doc)
  four-stand =
      by-test (starts_with t (drop i doc))
      (λ y. eq-eqb w (word_of t) (h.is ∙ ap word_of (ap (λ (n : ℕ). take n (drop i doc)) (sym four) ∙ front-is t (drop i doc) y)) ∙ sym y)
      (λ f. ne_eqb w (word_of t) (λ e.
      let same : piece doc i 4 ≡ t = word-tells (piece doc i 4) t (h.four ∙ sym four) h.bytes (bytes-are t b) (sym h.is ∙ e) in
      let z : ◌≡◌ {A = ℕ} 0 1 = cc (front-stands t (drop i doc) (ap (λ (n : ℕ). take n (drop i doc)) four ∙ same)) in omega arith)
      ∙ sym f)

pub comment-begins : {doc : List ℕ} {i w : ℕ} → IsHalf (piece doc i 4) w → Stands (ascii "<!--") doc i (eqb w 757932348)
unfolding word_of
comment-begins {doc} {i} h = record { is = sym (four-stand (ascii "<!--") tt refl doc i h) }

-- ---- the texts as integers

pub short-comment-end : ShortText (ascii "-->") 16777216 4074797
unfolding word_of
short-comment-end = record { few = lit< tt; power = refl; number = refl; bytes = tt }

pub short-instruction-end : ShortText (ascii "?>") 65536 15935
unfolding word_of
short-instruction-end = record { few = lit< tt; power = refl; number = refl; bytes = tt }

pub short-declaration-end : ShortText (ascii ">") 256 62
unfolding word_of
short-declaration-end = record { few = lit< tt; power = refl; number = refl; bytes = tt }
