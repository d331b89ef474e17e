-- Which bytes a printed name, package or value is free of, so that it ends where the source goes on.
use Rattle.std.proofs.Common.{◌≡◌, subst, Bool, true, false, not, List, [], ◌∷◌, ◌++◌, ℕ, zero, suc, ◌+◌, ◌-◌, arith, T, eqb, leb, leb→le, eqb→eq, length, get_or, take}
use lib.Dec.{not_T}
use Rattle.texts.specs.Choice.{pick, ◌or◌, ◌and◌}
use Rattle.texts.specs.Text.{ascii}
use Rattle.texts.specs.Lists.{is_empty, all}
use Rattle.texts.proofs.Choosing.{by-test, and_left, and_right}
use Rattle.classes.specs.Class.{is_upper, is_lower}
use Rattle.printing.specs.Repeated.{up_to}
use Rattle.classes.specs.Letters.{lowered, raised}
use Rattle.names.specs.Conversions.{cased_at, cased, camel_to_snake, camel_to_screaming_snake, ends_in_ies, ends_in_s, singular, capitalized, singular_pascal}
use Rattle.numbers.specs.Numbers.{is_digit}
use Rattle.wiresheet.specs.Plain.{is_letter, is_name_byte, is_identifier, is_dotted, is_package, is_digits, is_integer}
use Rattle.wiresheet.proofs.Numbers.{and_both, all_append}

-- any byte but c
abbrev pub but : ℕ → ℕ → Bool
but c b = not (eqb b c)

abbrev pub Free : ℕ → List ℕ → Type 0
Free c s = T (all (but c) s)

pub or_elim {ℓ} : {X : Type ℓ} (a b : Bool) → (T a → X) → (T b → X) → T (a or b) → X
or_elim true b f g h = f h
or_elim false b f g h = g h

pub or_left : (a b : Bool) → T a → T (a or b)
or_left true b h = tt
or_left false b h = absurd h

pub all-weaken : (p q : ℕ → Bool) → ((b : ℕ) → T (p b) → T (q b)) → (s : List ℕ) → T (all p s) → T (all q s)
unfolding all
all-weaken p q f [] h = tt
all-weaken p q f (b ∷ s) h = and_both (q b) (all q s) (f b (and_left (p b) (all p s) h)) (all-weaken p q f s (and_right (p b) (all p s) h))

-- a class that c is not in
outside : (p : ℕ → Bool) (c : ℕ) → T (not (p c)) → (b : ℕ) → T (p b) → T (but c b)
outside p c n b h = by-test (p c) (λ t. absurd (rw t at n)) (λ f. not_T (eqb b c) (λ e. rw f at (subst (λ x. T (p x)) (eqb→eq b c e) h)))

pub free : (p : ℕ → Bool) (c : ℕ) → T (not (p c)) → (s : List ℕ) → T (all p s) → Free c s
free p c n s h = all-weaken p (but c) (outside p c n) s h

pub identifier-bytes : (s : List ℕ) → T (is_identifier s) → T (all is_name_byte s)
unfolding is_identifier all is_name_byte
identifier-bytes [] h = absurd h
identifier-bytes (b ∷ s) h =
    and_both (is_name_byte b) (all is_name_byte s) (or_left (is_letter b) (is_digit b or eqb b 95) (and_left (is_letter b) (all is_name_byte s) h)) (and_right (is_letter b) (all is_name_byte s) h)

pub identifier-free : (s : List ℕ) → T (is_identifier s) → Free 32 s
unfolding is_name_byte is_letter is_upper is_lower is_digit
identifier-free s h = free is_name_byte 32 tt s (identifier-bytes s h)

-- ---- packages and values hold no ';'

letter-free : (b : ℕ) → T (is_letter b) → T (but 59 b)
unfolding is_letter is_upper is_lower
letter-free b h = outside is_letter 59 tt b h

name_free : (b : ℕ) → T (is_name_byte b) → T (but 59 b)
unfolding is_name_byte is_letter is_upper is_lower is_digit
name_free b h = outside is_name_byte 59 tt b h

dotted-free : (due : Bool) (s : List ℕ) → T (is_dotted due s) → Free 59 s
unfolding is_dotted all
dotted-free true [] h = tt
dotted-free false [] h = tt
dotted-free true (b ∷ s) h =
    and_both (but 59 b) (all (but 59) s) (letter-free b (and_left (is_letter b) (is_dotted false s) h)) (dotted-free false s (and_right (is_letter b) (is_dotted false s) h))
dotted-free false (b ∷ s) h =
    and_both (but 59 b) (all (but 59) s)
    (or_elim (is_name_byte b and is_dotted false s) (eqb b 46 and is_dotted true s)
    (λ l. name_free b (and_left (is_name_byte b) (is_dotted false s) l))
    (λ r. outside (λ x. eqb x 46) 59 tt b (and_left (eqb b 46) (is_dotted true s) r)) h)
    (or_elim (is_name_byte b and is_dotted false s) (eqb b 46 and is_dotted true s)
    (λ l. dotted-free false s (and_right (is_name_byte b) (is_dotted false s) l))
    (λ r. dotted-free true s (and_right (eqb b 46) (is_dotted true s) r)) h)

pub package-free : (s : List ℕ) → T (is_package s) → Free 59 s
unfolding is_package all
package-free [] h = tt
package-free (b ∷ s) h = dotted-free true (b ∷ s) h

digits-free : (s : List ℕ) → T (is_digits s) → Free 59 s
unfolding is_digits is_digit
digits-free s h = free is_digit 59 tt s (and_right (not (is_empty s)) (all is_digit s) h)

pub integer-free : (s : List ℕ) → T (is_integer s) → Free 59 s
unfolding is_integer all
integer-free [] h = absurd h
integer-free (b ∷ s) h =
    or_elim (is_digits (b ∷ s)) (eqb b 45 and is_digits s)
    (λ l. digits-free (b ∷ s) l)
    (λ r. and_both (but 59 b) (all (but 59) s) (outside (λ x. eqb x 45) 59 tt b (and_left (eqb b 45) (is_digits s) r)) (digits-free s (and_right (eqb b 45) (is_digits s) r))) h

-- ---- a converted name holds no space

unspaced : (b : ℕ) → (b ≡ 32 → ⊥) → T (but 32 b)
unspaced b h = not_T (eqb b 32) (λ e. h (eqb→eq b 32 e))

lowered-free : (b : ℕ) → T (but 32 b) → T (but 32 (lowered b))
unfolding lowered is_upper
lowered-free b h =
    by-test (is_upper b)
    (λ t. rw t (unspaced (b + 32) (λ e. let g : T (is_upper b) = rw t tt in let l = leb→le 65 b (and_left (leb 65 b) (leb b 90) g) in omega arith)))
    (λ f. rw f h)

raised-free : (b : ℕ) → T (but 32 b) → T (but 32 (raised b))
unfolding raised is_lower
raised-free b h =
    by-test (is_lower b)
    (λ t. rw t (unspaced (b - 32) (λ e. let g : T (is_lower b) = rw t tt in let l = leb→le 97 b (and_left (leb 97 b) (leb b 122) g) in omega arith)))
    (λ f. rw f h)

at-free : (s : List ℕ) (i : ℕ) → Free 32 s → T (but 32 (get_or s i 0))
unfolding all
at-free [] i h = tt
at-free (b ∷ s) zero h = and_left (but 32 b) (all (but 32) s) h
at-free (b ∷ s) (suc i) h = at-free s i (and_right (but 32 b) (all (but 32) s) h)

up-free : (f : ℕ → List ℕ) → ((i : ℕ) → Free 32 (f i)) → (n : ℕ) → Free 32 (up_to f n)
unfolding all up_to
up-free f h zero = tt
up-free f h (suc n) = all_append (but 32) (up_to f n) (f n) (up-free f h n) (h n)

-- a letter, perhaps after an underscore
led-free : (t : Bool) (b : ℕ) → T (but 32 b) → Free 32 (pick t (ascii "_") [] ++ (b ∷ []))
unfolding all
led-free true b h = and_both (but 32 b) true h tt
led-free false b h = and_both (but 32 b) true h tt

cased-free : (breaks : List ℕ → ℕ → Bool) (shown : ℕ → ℕ) → ((b : ℕ) → T (but 32 b) → T (but 32 (shown b))) → (s : List ℕ) → Free 32 s → Free 32 (cased breaks shown s)
unfolding cased cased_at
cased-free breaks shown free s h = up-free (cased_at breaks shown s) (λ i. led-free (breaks s i) (shown (get_or s i 0)) (free (get_or s i 0) (at-free s i h))) (length s)

pub snake-free : (s : List ℕ) → Free 32 s → Free 32 (camel_to_snake s)
unfolding camel_to_snake
snake-free = cased-free _ _ lowered-free

pub screaming-free : (s : List ℕ) → Free 32 s → Free 32 (camel_to_screaming_snake s)
unfolding camel_to_screaming_snake
screaming-free = cased-free _ _ raised-free

take-free : (n : ℕ) (s : List ℕ) → Free 32 s → Free 32 (take n s)
unfolding all
take-free zero s h = tt
take-free (suc n) [] h = tt
take-free (suc n) (b ∷ s) h = and_both (but 32 b) (all (but 32) (take n s)) (and_left (but 32 b) (all (but 32) s) h) (take-free n s (and_right (but 32 b) (all (but 32) s) h))

pick_free : (t : Bool) (a b : List ℕ) → Free 32 a → Free 32 b → Free 32 (pick t a b)
pick_free true a b g h = g
pick_free false a b g h = h

capital-free : (s : List ℕ) → Free 32 s → Free 32 (capitalized s)
unfolding capitalized all
capital-free [] h = tt
capital-free (b ∷ s) h = and_both (but 32 (raised b)) (all (but 32) s) (raised-free b (and_left (but 32 b) (all (but 32) s) h)) (and_right (but 32 b) (all (but 32) s) h)

pub singular-free : (s : List ℕ) → Free 32 s → Free 32 (singular_pascal s)
unfolding singular_pascal singular all
singular-free s h =
    let short = take (length s - 1) s in
    let long = take (length s - 3) s ++ ascii "y" in
    capital-free (singular s)
    (pick_free (ends_in_ies s) long (pick (ends_in_s s) short s)
    (all_append (but 32) (take (length s - 3) s) (ascii "y") (take-free (length s - 3) s h) tt)
    (pick_free (ends_in_s s) short s (take-free (length s - 1) s h) h))
