-- A number is determined by its decimal digits.
use Rattle.std.proofs.Common.{◌≡◌, refl, ap, sym, ◌∙◌, Bool, true, false, List, [], ◌∷◌, ◌++◌, ℕ, zero, suc, ◌+◌, ◌*◌, ◌-◌, ◌/◌, ◌%◌, ◌<◌, ◌≤◌, arith, T, ltb, leb, le→leb, ltb-true, ltb-false}
use Rattle.texts.specs.Choice.{◌and◌}
use Rattle.texts.specs.Lists.{all}
use Rattle.texts.proofs.Choosing.{by-test, and_left, and_right}
use Rattle.printing.specs.Decimal.{decimal}
use Rattle.printing.proofs.Decimals.{decimal-one, decimal-more}
use Rattle.numbers.specs.Numbers.{is_digit}
use Rattle.wiresheet.proofs.Splitting.{Splits, token, stops}

pub and_both : (a b : Bool) → T a → T b → T (a and b)
and_both true b g h = h
and_both false b g h = g

pub all_append : (c : ℕ → Bool) (s t : List ℕ) → T (all c s) → T (all c t) → T (all c (s ++ t))
unfolding all
all_append c [] t g h = h
all_append c (a ∷ s) t g h = and_both (c a) (all c (s ++ t)) (and_left (c a) (all c s) g) (all_append c s t (and_right (c a) (all c s) g) h)

-- the value of a list of digits, after those of the value a
value : ℕ → List ℕ → ℕ
value a [] = a
value a (c ∷ s) = value (a * 10 + (c - 48)) s

value-snoc : (a : ℕ) (s : List ℕ) (c : ℕ) → value a (s ++ (c ∷ [])) ≡ value a s * 10 + (c - 48)
unfolding value
value-snoc a [] c = refl
value-snoc a (b ∷ s) c = value-snoc (a * 10 + (b - 48)) s c

-- what holds of a digit, and of a text with a digit behind it, holds of each decimal
by_digits : (P : ℕ → List ℕ → Type 0) → ((n : ℕ) → n < 10 → P n ((48 + n) ∷ []))
    → ((n : ℕ) (s : List ℕ) → P (n / 10) s → P n (s ++ ((48 + n % 10) ∷ [])))
    → (f n : ℕ) → n ≤ f → P n (decimal n)
by_digits P one more zero n h = rw (decimal-one n (omega arith)) (one n (omega arith))
by_digits P one more (suc f) n h =
    by-test (ltb n 10)
    (λ t. let l = ltb-true n 10 t in rw (decimal-one n l) (one n l))
    (λ t. let l = ltb-false n 10 t in rw (decimal-more n l) (more n (decimal (n / 10)) (by_digits P one more f (n / 10) (omega arith))))

value-decimal : (n : ℕ) → value 0 (decimal n) ≡ n
unfolding value
value-decimal n =
    by_digits (λ n s. value 0 s ≡ n) (λ n h. omega arith)
    (λ n s e. value-snoc 0 s (48 + n % 10) ∙ rw e (omega arith)) n n (omega arith)

digit : (d : ℕ) → d < 10 → T (is_digit (48 + d))
unfolding is_digit
digit d h = and_both (leb 48 (48 + d)) (leb (48 + d) 57) (le→leb 48 (48 + d) (omega arith)) (le→leb (48 + d) 57 (omega arith))

pub decimal-digits : (n : ℕ) → T (all is_digit (decimal n))
unfolding all
decimal-digits n =
    by_digits (λ n s. T (all is_digit s)) (λ n h. and_both (is_digit (48 + n)) true (digit n h) tt)
    (λ n s e. all_append is_digit s ((48 + n % 10) ∷ []) e (and_both (is_digit (48 + n % 10)) true (digit (n % 10) (omega arith)) tt)) n n (omega arith)

pub decimal_injective : (m n : ℕ) → decimal m ≡ decimal n → m ≡ n
decimal_injective m n e = sym (value-decimal m) ∙ ap (value 0) e ∙ value-decimal n

-- a number, and then
pub number : {u v : List ℕ} {G : Type 0} (m n : ℕ) → T (stops is_digit u) → T (stops is_digit v) → (m ≡ n → Splits u v G) → Splits (decimal m ++ u) (decimal n ++ v) G
number m n hu hv k = token is_digit (decimal m) (decimal n) (decimal-digits m) (decimal-digits n) hu hv (λ e. k (decimal_injective m n e))
