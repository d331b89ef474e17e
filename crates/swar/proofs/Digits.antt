-- Laws of the number of a run of bytes: it determines the bytes.
use Rattle.std.proofs.Common.{◌≡◌, refl, sym, ap, ap₂, ◌∙◌, List, [], ◌∷◌, ℕ, zero, suc, ◌+◌, ◌*◌, ◌%◌, ◌^◌, ◌≤◌, ◌<◌, zero-lt-suc, pow-suc, add-zero, arith, T, eqb, ltb, lit<, length, take, drop, get_or, drop-cons, length-take-le, take_all, take-take, eq-eqb, eqb-true}
use native.Mathlib.Nat.{one-le-pow, mod-one, zero-mod}
use lib.Arith.{digits_div, digits_mod, mod-mul}
use lib.Pow.{are_bytes}
use Rattle.std.proofs.lemmas.Simd.{Each1-chunk}
use Rattle.texts.specs.Lists.{Every}
use Rattle.texts.specs.Text.{piece, starts_with}
use Rattle.texts.proofs.Choosing.{by-both, and_left, and_right}
use Rattle.texts.proofs.Comparing.{front-is, is_front}
use Rattle.swar.specs.Word.{word_of, IsWord, IsHalf}

-- ---- equal numbers of equally many bytes are of the same bytes

pub word-tells : (s t : List ℕ) → length s ≡ length t → Every (λ b. b < 256) s → Every (λ b. b < 256) t → word_of s ≡ word_of t → s ≡ t
unfolding word_of Every
word-tells [] [] l h k e = refl
word-tells [] (b ∷ t) l h k e = absurd (omega arith)
word-tells (a ∷ s) [] l h k e = absurd (omega arith)
word-tells (a ∷ s) (b ∷ t) l h k e =
    let p : a ≡ b = omega (arith, h.0, k.0) in
    let q : s ≡ t = word-tells s t (omega arith) h.1 k.1 (omega arith) in
    ap₂ (λ (b : ℕ) (t : List ℕ). b ∷ t) p q

-- the first n bytes are the remainder by 256 ^ n
word-take : (n : ℕ) (s : List ℕ) → Every (λ b. b < 256) s → word_of s % 256 ^ n ≡ word_of (take n s)
unfolding word_of Every
word-take zero s h = mod-one (word_of s)
word-take (suc n) [] h = zero-mod (256 ^ suc n)
word-take (suc n) (b ∷ s) h =
    ap (λ (m : ℕ). (word_of s * 256 + b) % m) (pow-suc 256 n)
    ∙ mod-mul (word_of s * 256 + b) (one-le-pow n 256 (zero-lt-suc 255)) (zero-lt-suc 255)
    ∙ ap₂ (λ (m r : ℕ). m % 256 ^ n * 256 + r) (digits_div (word_of s) h.0) (digits_mod (word_of s) h.0)
    ∙ ap (λ (m : ℕ). m * 256 + b) (word-take n s h.1)

-- literal bytes are below 256, by computation
pub bytes-are : (s : List ℕ) → T (are_bytes s) → Every (λ b. b < 256) s
unfolding Every
bytes-are [] t = tt
bytes-are (b ∷ s) t = (lit< (and_left (ltb b 256) (are_bytes s) t), bytes-are s (and_right (ltb b 256) (are_bytes s) t))

-- ---- a text of at most eight bytes stands where the low bytes of the word there are its number

module _ (s : List ℕ) (i : ℕ) {w : ℕ} (q : IsWord (piece s i 8) w) (t : List ℕ) (b : T (are_bytes t)) where
  pub word-starts : length t ≤ 8 → eqb (w % 256 ^ length t) (word_of t) ≡ starts_with t (drop i s)
  unfolding Every
  word-starts l =
      let n = length t in
      let p = piece s i 8 in
      let front : take n p ≡ take n (drop i s) = take-take n 8 (drop i s) l in
      let low : w % 256 ^ n ≡ word_of (take n p) = ap (λ (m : ℕ). m % 256 ^ n) q.is ∙ word-take n p q.bytes in
      let long : length (take n p) ≡ n = length-take-le n p (omega (arith, q.eight)) in
      by-both (eqb (w % 256 ^ n) (word_of t)) (starts_with t (drop i s))
      (λ e. is_front t (drop i s) (sym front ∙ word-tells (take n p) t long (Each1-chunk (λ b. b < 256) 0 n p q.bytes) (bytes-are t b) (sym low ∙ eqb-true _ _ e)))
      (λ y. eq-eqb (w % 256 ^ n) (word_of t) (low ∙ ap word_of (front ∙ front-is t (drop i s) y)))

  pub word-starts-whole : length t ≡ 8 → eqb w (word_of t) ≡ starts_with t (drop i s)
  word-starts-whole l =
      let k : w % 256 ^ 8 ≡ w =
      ap (λ (m : ℕ). m % 256 ^ 8) q.is ∙ word-take 8 (piece s i 8) q.bytes ∙ ap word_of (take_all 8 (piece s i 8) (omega (arith, q.eight))) ∙ sym q.is in
      ap (λ (m : ℕ). eqb m (word_of t)) (sym k ∙ ap (λ (n : ℕ). w % 256 ^ n) (sym l)) ∙ word-starts (omega arith)

-- ---- a number that is read byte by byte

-- n bytes of s, the first of them k behind i
abbrev row : List ℕ → ℕ → ℕ → ℕ → List ℕ
row s i k zero = []
row s i k (suc n) = get_or s (i + k) 0 ∷ row s i (suc k) n

piece_row : (s : List ℕ) (i k n : ℕ) → i + k + n ≤ length s → piece s (i + k) n ≡ row s i k n
piece_row s i k zero h = refl
piece_row s i k (suc n) h =
    let z : suc (i + k) ≡ i + suc k = omega arith in
    ap (take (suc n)) (drop-cons s (i + k) 0 (omega arith)) ∙ ap (λ (t : List ℕ). get_or s (i + k) 0 ∷ t) (ap (λ (j : ℕ). piece s j n) z ∙ piece_row s i (suc k) n (omega arith))

module _ (s : List ℕ) (i : ℕ) (b : (j : ℕ) → get_or s j 0 < 256) where
  whole : (n : ℕ) → i + n ≤ length s → piece s i n ≡ row s i 0 n
  whole n h = rw add-zero at (piece_row s i 0 n (omega arith))

  pub word_read : i + 8 ≤ length s
      → IsWord (piece s i 8) (get_or s i 0 + get_or s (i + 1) 0 * 256 + get_or s (i + 2) 0 * 65536 + get_or s (i + 3) 0 * 16777216 + get_or s (i + 4) 0 * 4294967296 + get_or s (i + 5) 0 * 1099511627776 + get_or s (i + 6) 0 * 281474976710656 + get_or s (i + 7) 0 * 72057594037927936)
  unfolding word_of Every
  word_read h =
      rw (whole 8 h) (record {
        is = rw add-zero (omega arith);
        eight = refl;
        bytes = (b _, (b _, (b _, (b _, (b _, (b _, (b _, (b _, tt))))))));
      })

  pub half-read : i + 4 ≤ length s → IsHalf (piece s i 4) (get_or s i 0 + get_or s (i + 1) 0 * 256 + get_or s (i + 2) 0 * 65536 + get_or s (i + 3) 0 * 16777216)
  unfolding word_of Every
  half-read h =
      rw (whole 4 h) (record {
        is = rw add-zero (omega arith);
        four = refl;
        bytes = (b _, (b _, (b _, (b _, tt))));
        small = omega (arith, b i, b (i + 1), b (i + 2), b (i + 3));
      })
