-- Laws of comparing with a literal that is given by its numbers.
use Rattle.std.proofs.Common.{◌≡◌, sym, ap, ◌∙◌, Bool, false, List, ℕ, ◌+◌, ◌<◌, ◌%◌, zero-lt-suc, arith, eqb, length, take, drop, take-append-drop, drop-drop, eq-eqb, ne_eqb}
use native.Mathlib.Nat.{one-le-pow}
use Rattle.texts.specs.Choice.{◌and◌}
use Rattle.texts.specs.Text.{piece, starts_with}
use Rattle.texts.proofs.Comparing.{starts-append}
use Rattle.swar.specs.Word.{IsWord}
use Rattle.swar.specs.internal.Standing.{ShortText, LongText, StandsShort, StandsLong}
use Rattle.swar.proofs.Digits.{word-starts, word-starts-whole}

-- a power of 256 is positive
pub power-some : {text : List ℕ} {modulus front : ℕ} → ShortText text modulus front → 0 < modulus
power-some {text} t = rw t.power (one-le-pow (length text) 256 (zero-lt-suc 255))

module _ (s : List ℕ) (i : ℕ) {w : ℕ} (q : IsWord (piece s i 8) w) where
  pub stands-short : (modulus front : ℕ) → StandsShort s i modulus front (eqb (w % modulus) front)
  stands-short modulus front = record { is = λ text t. rw (t.power, t.number) (word-starts s i q text t.bytes (omega (arith, t.few))) }

  -- a longer text, by whether its first eight bytes stand there
  module _ (front modulus back : ℕ) where
    first-eight : (text : List ℕ) → LongText text front modulus back → starts_with text (drop i s) ≡ (eqb w front and starts_with (drop 8 text) (drop (i + 8) s))
    first-eight text t =
        let a : starts_with (take 8 text) (drop i s) ≡ eqb w front = sym (rw t.number (word-starts-whole s i q (take 8 text) t.bytes t.eight)) in
        let b : starts_with (drop 8 text) (drop (length (take 8 text)) (drop i s)) ≡ starts_with (drop 8 text) (drop (i + 8) s) = rw (t.eight, drop-drop) in
        ap (λ x. starts_with x (drop i s)) (sym (take-append-drop 8 text)) ∙ starts-append (take 8 text) (drop 8 text) (drop i s) ∙ rw (a, b)

    pub stands-long : w ≡ front → {r : Bool} → StandsShort s (i + 8) modulus back r → StandsLong s i front modulus back r
    stands-long e u = record { is = λ text t. u.is (drop 8 text) t.rest ∙ sym (first-eight text t ∙ rw (eq-eqb w front e)) }

    pub stands-not : (w ≡ front → ⊥) → StandsLong s i front modulus back false
    stands-not n = record { is = λ text t. sym (first-eight text t ∙ rw (ne_eqb w front n)) }
