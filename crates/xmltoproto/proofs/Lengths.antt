-- How long names, numbers, quoted texts and lines are at most.
use Rattle.std.proofs.Common.{◌≡◌, refl, Bool, true, false, List, [], ◌∷◌, ◌++◌, ℕ, zero, suc, ◌+◌, ◌*◌, ◌-◌, ◌/◌, ◌%◌, ◌≤◌, ◌<◌, arith, eqb, ltb, length, take, length-append, length-take, ltb-true, ltb-false}
use Rattle.texts.specs.Choice.{pick, ◌or◌}
use Rattle.texts.specs.Text.{ascii}
use Rattle.texts.specs.Lists.{each}
use Rattle.texts.proofs.Choosing.{by-test}
use Rattle.printing.specs.Decimal.{decimal}
use Rattle.printing.specs.Repeated.{up_to}
use Rattle.printing.proofs.Decimals.{decimal-one, decimal-more}
use Rattle.names.specs.Conversions.{cased_at, cased, camel_to_snake, camel_to_screaming_snake, prefix_of, ends_in_ies, ends_in_s, singular, capitalized, singular_pascal}
use Rattle.names.proofs.Singular.{ies-least}
use Rattle.escaping.specs.Escape.{hex_digit, hex, escaped, quoted}

pub pick-most : (b : Bool) (x y : List ℕ) (n : ℕ) → length x ≤ n → length y ≤ n → length (pick b x y) ≤ n
pick-most true x y n h k = h
pick-most false x y n h k = k

-- ---- names

up-to-most : (f : ℕ → List ℕ) → ((i : ℕ) → length (f i) ≤ 2) → (n : ℕ) → length (up_to f n) ≤ 2 * n
unfolding up_to
up-to-most f h zero = omega arith
up-to-most f h (suc n) = omega (arith, length-append (up_to f n) (f n), h n, up-to-most f h n)

-- an underscore may stand before a byte
two-most : (b : Bool) (x : ℕ) → length (pick b (ascii "_") [] ++ (x ∷ [])) ≤ 2
two-most true x = omega arith
two-most false x = omega arith

cased-most : (breaks : List ℕ → ℕ → Bool) (shown : ℕ → ℕ) (s : List ℕ) → length (cased breaks shown s) ≤ 2 * length s
unfolding cased cased_at
cased-most breaks shown s = up-to-most (cased_at breaks shown s) (λ i. two-most (breaks s i) (shown _)) (length s)

pub snake-most : (s : List ℕ) → length (camel_to_snake s) ≤ 2 * length s
unfolding camel_to_snake
snake-most s = cased-most _ _ s

pub screaming-most : (s : List ℕ) → length (camel_to_screaming_snake s) ≤ 2 * length s
unfolding camel_to_screaming_snake
screaming-most s = cased-most _ _ s

pub prefix-most : (s : List ℕ) → length (prefix_of s) ≤ 2 * length s + 1
unfolding prefix_of
prefix-most s = omega (arith, length-append (camel_to_screaming_snake s) (ascii "_"), screaming-most s)

capitalized-length : (s : List ℕ) → length (capitalized s) ≡ length s
unfolding capitalized
capitalized-length [] = refl
capitalized-length (b ∷ s) = refl

singular-length : (s : List ℕ) → length (singular s) ≤ length s
unfolding singular
singular-length s =
    by-test (ends_in_ies s)
    (λ t. rw t (omega (arith, length-append (take (length s - 3) s) (ascii "y"), length-take (length s - 3) s, ies-least s refl t)))
    (λ f. rw f (pick-most (ends_in_s s) (take (length s - 1) s) s (length s) (omega (arith, length-take (length s - 1) s)) (omega arith)))

pub singular-most : (s : List ℕ) → length (singular_pascal s) ≤ length s
unfolding singular_pascal
singular-most s = omega (arith, capitalized-length (singular s), singular-length s)

-- ---- numbers

-- 10 to the power suc d
abbrev pub tens : ℕ → ℕ
tens zero = 10
tens (suc d) = 10 * tens d

pub digits-most : (d n : ℕ) → n < tens d → length (decimal n) ≤ suc d
digits-most zero n h = rw (decimal-one n h) (omega arith)
digits-most (suc d) n h =
    by-test (ltb n 10)
    (λ t. rw (decimal-one n (ltb-true n 10 t)) (omega arith))
    (λ f. rw (decimal-more n (ltb-false n 10 f)) (omega (arith, length-append (decimal (n / 10)) ((48 + n % 10) ∷ []), digits-most d (n / 10) (omega arith))))

pub decimal-most : (n : ℕ) → n < 4294967296 → length (decimal n) ≤ 10
decimal-most n h = digits-most 9 n (omega arith)

-- ---- quoted texts

hex-most : (b : ℕ) → length (hex b) ≤ 2
unfolding hex
hex-most b = pick-most (ltb b 16) (hex_digit b ∷ []) _ 2 (omega arith) (omega arith)

escaped-most : (b : ℕ) → length (escaped b) ≤ 6
unfolding escaped
escaped-most b =
    go (eqb b 0) (eqb b 9) (eqb b 10) (eqb b 13) (eqb b 34) (eqb b 92) (ltb b 32 or eqb b 127)
  where
    u : length (ascii "\\u{" ++ hex b ++ ascii "}") ≤ 6
    u = simp length-append (omega (arith, hex-most b))

    go : (z t n r q k h : Bool) → length (pick z (ascii "\\0") (pick t (ascii "\\t") (pick n (ascii "\\n") (pick r (ascii "\\r") (pick q (ascii "\\\"") (pick k (ascii "\\\\") (pick h (ascii "\\u{" ++ hex b ++ ascii "}") (b ∷ [])))))))) ≤ 6
    go true t n r q k h = omega arith
    go false true n r q k h = omega arith
    go false false true r q k h = omega arith
    go false false false true q k h = omega arith
    go false false false false true k h = omega arith
    go false false false false false true h = omega arith
    go false false false false false false true = u
    go false false false false false false false = omega arith

escapes-most : (s : List ℕ) → length (each escaped s) ≤ 6 * length s
unfolding each
escapes-most [] = omega arith
escapes-most (b ∷ s) = omega (arith, length-append (escaped b) (each escaped s), escaped-most b, escapes-most s)

pub quoted-most : (s : List ℕ) → length (quoted s) ≤ 6 * length s + 2
unfolding quoted
quoted-most s = simp length-append (omega (arith, escapes-most s))
