-- Laws of the lowest mark of a word, and of finding a byte among eight.
use Rattle.std.proofs.Common.{◌≡◌, refl, sym, ap, ap₂, ◌∙◌, Bool, not, List, [], ◌∷◌, map, ℕ, zero, suc, ◌+◌, ◌*◌, ◌/◌, ◌^◌, ◌≤◌, ◌<◌, zero-lt-suc, mul-one, mul_assoc, pow-suc, mul-div_cancel, arith, ltb, lit<, length, drop, drop-drop, ltb-true, ltb-false, min, Fits, w64}
use native.Mathlib.Nat.{mul-mod_left}
use lib.Arith.{digits_mod}
use Rattle.std.specs.List.{prefix_len}
use lib.Count.{count_trailing_zeros, under, trailing_of_zero, trailing_le}
use Rattle.texts.specs.Text.{piece}
use Rattle.texts.specs.Scan.{scan, until, is}
use Rattle.texts.specs.Choice.{pick}
use Rattle.texts.proofs.Choosing.{by-test}
use Rattle.texts.proofs.Pieces.{length-piece}
use Rattle.texts.proofs.Scanning.{count_past, count-take}
use Rattle.swar.specs.Word.{word_of}
use Rattle.swar.specs.internal.Marks.{Marked}

-- ---- the zero bits below the lowest mark of a word

shift : (k n : ℕ) → count_trailing_zeros (suc k) (n * 2) ≡ suc (count_trailing_zeros k n)
unfolding count_trailing_zeros
shift k n = ap₂ (λ (d m : ℕ). under d (count_trailing_zeros k m)) (mul-mod_left n 2) (mul-div_cancel n (zero-lt-suc 1))

shifts : (j k n : ℕ) → count_trailing_zeros (j + k) (n * 2 ^ j) ≡ j + count_trailing_zeros k n
shifts zero k n =
    let z : (m : ℕ) → 0 + m ≡ m = λ m. omega arith in
    ap₂ count_trailing_zeros (z k) (mul-one n) ∙ sym (z (count_trailing_zeros k n))
shifts (suc j) k n =
    let z : (m : ℕ) → suc j + m ≡ suc (j + m) = λ m. omega arith in
    ap₂ count_trailing_zeros (z k) (ap (λ (m : ℕ). n * m) (pow-suc 2 j) ∙ sym (mul_assoc n (2 ^ j) 2))
    ∙ shift (j + k) (n * 2 ^ j) ∙ ap suc (shifts j k n) ∙ sym (z (count_trailing_zeros k n))

odd : (k n : ℕ) → count_trailing_zeros (suc k) (n * 2 + 1) ≡ 0
unfolding count_trailing_zeros
odd k n = ap (λ (d : ℕ). under d (count_trailing_zeros k ((n * 2 + 1) / 2))) (digits_mod n (lit< tt))

pub unmarked-byte : (k n : ℕ) → count_trailing_zeros (8 + k) (n * 256 + 0) ≡ 8 + count_trailing_zeros k n
unmarked-byte k n =
    let z : n * 256 + 0 ≡ n * 256 = omega arith in
    ap (count_trailing_zeros (8 + k)) z ∙ shifts 8 k n

pub marked-byte : (k n : ℕ) → count_trailing_zeros (8 + k) (n * 256 + 128) ≡ 7
marked-byte k n =
    let y : 8 + k ≡ 7 + suc k = omega arith in
    let z : n * 256 + 128 ≡ (n * 2 + 1) * 128 = omega arith in
    ap₂ count_trailing_zeros y z ∙ shifts 7 (suc k) (n * 2 + 1) ∙ ap (λ (m : ℕ). 7 + m) (odd k n)

-- ---- a word with a byte for each element: 128 where the test holds, else 0

module _ {A : Type 0} (f : A → Bool) where
  abbrev pub flagged : List A → ℕ
  flagged l = word_of (map (λ a. pick (f a) 128 0) l)

  -- the lowest mark gives the number of elements before it
  pub lowest : (l : List A) → count_trailing_zeros (8 * length l) (flagged l) / 8 ≡ prefix_len (λ a. not (f a)) l
  unfolding word_of count_trailing_zeros
  lowest [] = refl
  lowest (a ∷ l) =
      let k = 8 * length l in
      let z : 8 * suc (length l) ≡ 8 + k = omega arith in
      by-test (f a)
      (λ t. rw t (ap₂ (λ (j m : ℕ). count_trailing_zeros j m / 8) z refl ∙ ap (λ (m : ℕ). m / 8) (marked-byte k (flagged l))))
      (λ t. rw t (ap₂ (λ (j m : ℕ). count_trailing_zeros j m / 8) z refl ∙ ap (λ (m : ℕ). m / 8) (unmarked-byte k (flagged l)) ∙ omega (arith, lowest l)))

  -- where no test holds, none is marked
  none-marked : (l : List A) → length l ≤ prefix_len (λ a. not (f a)) l → flagged l ≡ 0
  unfolding word_of
  none-marked [] h = refl
  none-marked (a ∷ l) h =
      by-test (f a)
      (λ t. absurd (let g = rw t at h in omega arith))
      (λ t. let g = rw t at h in rw t (omega (arith, none-marked l (omega arith))))

-- a word has at most 64 trailing zeros
pub zeros-fit : (m : ℕ) → Fits w64 (count_trailing_zeros 64 m / 8)
zeros-fit m = omega (arith, trailing_le 64 m)

-- m marks x among the 8 bytes from i on
module _ {x : ℕ} {s : List ℕ} {i m : ℕ} (e : Marked x s i m) (room : i + 8 ≤ length s) where
  before : count_trailing_zeros 64 m / 8 ≡ prefix_len (until (is x)) (piece s i 8)
  before =
      let l : 64 ≡ 8 * length (piece s i 8) = ap (λ (n : ℕ). 8 * n) (sym (length-piece s i 8 room)) in
      ap₂ (λ (k n : ℕ). count_trailing_zeros k n / 8) l e.is ∙ lowest (is x) (piece s i 8)

  most : prefix_len (until (is x)) (piece s i 8) ≡ min 8 (prefix_len (until (is x)) (drop i s))
  most = count-take (until (is x)) 8 (drop i s)

  pub word-lacks : m ≡ 0 → scan (until (is x)) s (i + 8) ≡ scan (until (is x)) s i
  word-lacks z =
      let all : 64 / 8 ≡ prefix_len (until (is x)) (piece s i 8) = ap (λ (k : ℕ). k / 8) (sym (ap (count_trailing_zeros 64) z ∙ trailing_of_zero 64)) ∙ before in
      omega (arith, most, rw drop-drop at (count_past (until (is x)) 8 (drop i s) (omega (arith, most))))

  pub word-stop : (m ≡ 0 → ⊥) → (at : ℕ) → scan (until (is x)) s i ≡ scan (until (is x)) s at → i + count_trailing_zeros 64 m / 8 ≡ scan (until (is x)) s at
  word-stop n at inv =
      by-test (ltb (prefix_len (until (is x)) (piece s i 8)) 8)
      (λ t. omega (arith, before, inv, most, ltb-true (prefix_len (until (is x)) (piece s i 8)) 8 t))
      (λ f. absurd (n (e.is ∙ none-marked (is x) (piece s i 8) (omega (arith, length-piece s i 8 room, ltb-false (prefix_len (until (is x)) (piece s i 8)) 8 f)))))

  pub word_fits : length s < 2 ^ 64 → Fits w64 (i + count_trailing_zeros 64 m / 8)
  word_fits l = omega (arith, trailing_le 64 m)

-- a word that begins at the last place where one fits, or before it, lies within
pub word-within : {i last n : ℕ} → i ≤ last → last + 8 ≡ n → i + 8 ≤ n
word-within h e = omega arith
