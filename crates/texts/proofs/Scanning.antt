-- Laws of scans. A loop's invariant is that the scan from `i` ends where the scan from `at` does. A
-- byte that passes keeps it; at a byte that fails, or at the end, `i` is the answer.
use Rattle.std.proofs.Common.{◌≡◌, refl, sym, ap, ◌∙◌, Bool, true, false, not, List, ◌∷◌, ℕ, suc, ◌+◌, zero, min, [], take, drop, ◌≤◌, ◌<◌, arith, length, get_or, bit_or, eq-eqb, ne_eqb, lt-ltb}
use mir.Val.{bool_byte}
use Rattle.std.proofs.lemmas.Nat.{le_or_l, le_or_r}
use Rattle.std.proofs.lemmas.List.Sums.{prefix_len-drop_all, prefix_len-drop_yes, prefix_len-drop_no}
use Rattle.std.specs.List.{prefix_len}
use Rattle.texts.proofs.Choosing.{by-test}
use Rattle.texts.specs.Scan.{scan, until, is, is_ascii}

pub count_yes : (p : ℕ → Bool) (x : ℕ) (xs : List ℕ) → p x ≡ true → prefix_len p (x ∷ xs) ≡ suc (prefix_len p xs)
count_yes p x xs t = rw t (omega arith)

pub count_no : (p : ℕ → Bool) (x : ℕ) (xs : List ℕ) → p x ≡ false → prefix_len p (x ∷ xs) ≡ 0
count_no p x xs t = rw t

-- the count in the first n bytes, and the count of what is passed and of the rest
pub count-take : (p : ℕ → Bool) (n : ℕ) (s : List ℕ) → prefix_len p (take n s) ≡ min n (prefix_len p s)
count-take p zero s = omega arith
count-take p (suc n) [] = omega arith
count-take p (suc n) (x ∷ s) =
    by-test (p x)
    (λ t. rw t (omega (arith, count-take p n s)))
    (λ f. rw f (omega arith))

pub count_past : (p : ℕ → Bool) (n : ℕ) (s : List ℕ) → n ≤ prefix_len p s → prefix_len p s ≡ n + prefix_len p (drop n s)
count_past p zero s h = omega arith
count_past p (suc n) [] h = absurd (omega arith)
count_past p (suc n) (x ∷ s) h =
    by-test (p x)
    (λ t. let g = rw t at h in rw t (omega (arith, count_past p n s (omega arith))))
    (λ f. absurd (let g = rw f at h in omega arith))

-- a loop that scans s from `at` has come to i
pub record Scanning (p : ℕ → Bool) (s : List ℕ) (at i : ℕ) : Type 0 where
  pub rest : scan p s i ≡ scan p s at

pub scan-start : {p : ℕ → Bool} {s : List ℕ} {at : ℕ} → Scanning p s at at
scan-start = record { rest = refl }

module _ {p : ℕ → Bool} {s : List ℕ} {at i : ℕ} (inv : Scanning p s at i) where
  pub scan-end : length s ≤ i → i ≡ scan p s at
  scan-end h = omega (arith, inv.rest, prefix_len-drop_all p s i h)

  -- b is what the test says of the byte at i
  module _ {b : Bool} (h : i < length s) (e : b ≡ p (get_or s i 0)) where
    pub scan-on : b ≡ true → Scanning p s at (i + 1)
    scan-on t = record { rest = omega (arith, inv.rest, prefix_len-drop_yes p s i 0 h (sym e ∙ t)) }

    pub scan-stop : b ≡ false → i ≡ scan p s at
    scan-stop f = omega (arith, inv.rest, prefix_len-drop_no p s i 0 h (sym e ∙ f))

-- the same of a scan up to a byte that passes q
module _ (q : ℕ → Bool) {s : List ℕ} {at i : ℕ} (inv : Scanning (until q) s at i) {b : Bool} (h : i < length s) (e : b ≡ q (get_or s i 0)) where
  pub until-on : b ≡ false → Scanning (until q) s at (i + 1)
  until-on v = scan-on inv h (ap not e) (ap not v)

  pub until_stop : b ≡ true → i ≡ scan (until q) s at
  until_stop v = scan-stop inv h (ap not e) (ap not v)

-- the same of a scan up to the byte x
module _ {x : ℕ} {s : List ℕ} {at i : ℕ} (inv : Scanning (until (is x)) s at i) (h : i < length s) where
  pub byte-on : (get_or s i 0 ≡ x → ⊥) → Scanning (until (is x)) s at (i + 1)
  byte-on n = until-on (is x) inv h refl (ne_eqb _ _ n)

  pub byte-stop : get_or s i 0 ≡ x → i ≡ scan (until (is x)) s at
  byte-stop e = until_stop (is x) inv h refl (eq-eqb _ _ e)

-- ---- many bytes at once

-- one byte more than k bytes from i on that all pass
run-on : (p : ℕ → Bool) (s : List ℕ) (i k : ℕ) → i + k < length s → scan p s (i + k) ≡ scan p s i → p (get_or s (i + k) 0) ≡ true → scan p s (i + (k + 1)) ≡ scan p s i
run-on p s i k h inv t =
    let e : i + k + 1 ≡ i + (k + 1) = omega arith in
    rw (← e) (omega (arith, prefix_len-drop_yes p s (i + k) 0 h t))

-- where f is 1 if the byte fails, else 0
pub passes-on : (p : ℕ → Bool) (s : List ℕ) (i k failed : ℕ) {b : Bool} {f : ℕ} → i + k < length s → (failed ≡ 0 → scan p s (i + k) ≡ scan p s i)
    → b ≡ p (get_or s (i + k) 0) → f ≡ bool_byte (not b) → bit_or failed f ≡ 0 → scan p s (i + (k + 1)) ≡ scan p s i
passes-on p s i k failed {b} {f} h inv e q z = run-on p s i k h (inv (omega (arith, le_or_l failed f))) (sym e ∙ passed b (sym q ∙ omega (arith, le_or_r failed f)))
  where
    passed : (b : Bool) → bool_byte (not b) ≡ 0 → b ≡ true
    passed true w = refl
    passed false w = absurd (omega arith)

-- where `all` is the bitwise OR of the bytes
pub bits-on : (s : List ℕ) (i k all : ℕ) → i + k < length s → (all < 128 → scan is_ascii s (i + k) ≡ scan is_ascii s i)
    → bit_or all (get_or s (i + k) 0) < 128 → scan is_ascii s (i + (k + 1)) ≡ scan is_ascii s i
unfolding is_ascii
bits-on s i k all h inv l =
    let x = get_or s (i + k) 0 in
    run-on is_ascii s i k h (inv (omega (arith, le_or_l all x))) (lt-ltb x 128 (omega (arith, le_or_r all x)))

-- a scan never goes back
pub scan-from : (p : ℕ → Bool) (s : List ℕ) (at : ℕ) → at ≤ scan p s at
scan-from p s at = omega arith
