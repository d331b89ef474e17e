-- A text is determined by its quoted form: pairs of bytes below 128 are compared by computation.
use Rattle.std.proofs.Common.{◌≡◌, refl, subst, Bool, true, false, List, [], ◌∷◌, ℕ, zero, suc, ◌<◌, ◌≤◌, arith, T, eqb, ltb, ltb→lt, ltb-true, ltb-false, eqb-true, ne_eqb, le-ltb}
use Rattle.texts.specs.Choice.{◌or◌, ◌and◌}
use Rattle.texts.specs.Text.{ascii}
use Rattle.texts.specs.Lists.{Every}
use Rattle.texts.proofs.Choosing.{by-test, and_left, and_right}
use Rattle.escaping.specs.Escape.{hex, escaped, quoted}
use Rattle.wiresheet.proofs.Splitting.{Splits, done, lit, byte, flip, apart, differs, listed}

-- a test holds below n
abbrev below : (ℕ → Bool) → ℕ → Bool
below p zero = true
below p (suc n) = p n and below p n

below_at : (p : ℕ → Bool) (n : ℕ) → T (below p n) → (c : ℕ) → c < n → T (p c)
below_at p zero h c l = absurd (omega arith)
below_at p (suc n) h c l =
    by-test (ltb c n)
    (λ t. below_at p n (and_right (p n) (below p n) h) c (ltb-true c n t))
    (λ t. let g = ltb-false c n t in let q : n ≡ c = omega arith in rw q at (and_left (p n) (below p n) h))

-- two bytes are equal, or their escapes differ
pair : ℕ → ℕ → Bool
pair a b = eqb a b or differs (escaped a) (escaped b)

pairs : T (below (λ a. below (pair a) 128) 128)
unfolding pair escaped hex
pairs = tt

-- the first byte of an escape is below 128 and no quote
opens : List ℕ → Bool
opens [] = false
opens (b ∷ s) = ltb b 128 and differs (b ∷ s) (ascii "\"")

open-bytes : T (below (λ a. opens (escaped a)) 128)
unfolding opens escaped hex
open-bytes = tt

small : (a : ℕ) → a < 128 → T (opens (escaped a))
small a h = below_at (λ a. opens (escaped a)) 128 open-bytes a h

large : (a : ℕ) → 128 ≤ a → escaped a ≡ a ∷ []
unfolding escaped
large a h =
    rw (ne_eqb a 0 (omega arith), ne_eqb a 9 (omega arith), ne_eqb a 10 (omega arith), ne_eqb a 13 (omega arith), ne_eqb a 34 (omega arith), ne_eqb a 92 (omega arith), le-ltb a 32 (omega arith), ne_eqb a 127 (omega arith))

beyond : {G : Type 0} (s : List ℕ) (b : ℕ) → T (opens s) → 128 ≤ b → Splits s (b ∷ []) G
unfolding opens
beyond [] b h l = absurd h
beyond (a ∷ s) b h l = byte a b λ e. absurd (let g = ltb→lt a 128 (and_left (ltb a 128) (differs (a ∷ s) (ascii "\"")) h) in omega arith)

escaped-unique : (a b : ℕ) → Splits (escaped a) (escaped b) (a ≡ b)
unfolding pair
escaped-unique a b =
    by-test (ltb a 128)
    (λ p. let la = ltb-true a 128 p in by-test (ltb b 128)
    (λ q. tested (eqb a b) refl (below_at (pair a) 128 (below_at (λ n. below (pair n) 128) 128 pairs a la) b (ltb-true b 128 q)))
    (λ q. let lb = ltb-false b 128 q in rw (large b lb) (beyond (escaped a) b (small a la) lb)))
    (λ p. let la = ltb-false a 128 p in by-test (ltb b 128)
    (λ q. rw (large a la) (flip (beyond (escaped b) a (small b (ltb-true b 128 q)) la)))
    (λ q. rw (large a la, large b (ltb-false b 128 q)) (byte a b λ e. done [] e)))
  where
    tested : (t : Bool) → eqb a b ≡ t → T (t or differs (escaped a) (escaped b)) → Splits (escaped a) (escaped b) (a ≡ b)
    tested true e h = subst (λ n. Splits (escaped a) (escaped n) (a ≡ n)) (eqb-true a b e) (done (escaped a) refl)
    tested false e h = apart h

-- no escape begins with a quote
closes : (a : ℕ) → Splits (escaped a) (ascii "\"") ⊥
unfolding opens
closes a =
    by-test (ltb a 128)
    (λ p. opened (escaped a) (small a (ltb-true a 128 p)))
    (λ p. let l = ltb-false a 128 p in rw (large a l) (byte a 34 λ e. absurd (omega arith)))
  where
    opened : (s : List ℕ) → T (opens s) → Splits s (ascii "\"") ⊥
    opened [] h = absurd h
    opened (b ∷ s) h = apart (and_right (ltb b 128) (differs (b ∷ s) (ascii "\"")) h)

always : (l : List ℕ) → Every (λ _. Unit {0}) l
unfolding Every
always [] = tt
always (a ∷ l) = (tt, always l)

pub quoted-unique : (s t : List ℕ) → Splits (quoted s) (quoted t) (s ≡ t)
unfolding quoted
quoted-unique s t =
    lit (ascii "\"") (listed escaped (λ _. Unit {0}) (λ a b _ _. escaped-unique a b) s t (always s) (always t) (λ a _. closes a) (λ a _. closes a) λ e.
    done (ascii "\"") e)
