-- Laws of comparing two texts: `same` and `starts_with`.
use Rattle.std.proofs.Common.{◌≡◌, refl, sym, ap, ◌∙◌, Bool, true, false, List, [], ◌∷◌, ◌++◌, ℕ, ◌-◌, ◌≤◌, ◌<◌, arith, eqb, ◌&&◌, length, take, drop, length-take, length-drop, eq-eqb, ne_eqb, eqb-true}
use Rattle.std.proofs.Math.Bool.{and_assoc}
use Rattle.std.proofs.lemmas.Bool.{eqb-false}
use Rattle.std.proofs.lemmas.Slice.Eq.{bytes_eq-Decides}
use Rattle.texts.specs.Choice.{◌and◌}
use Rattle.texts.specs.Text.{same, starts_with}
use Rattle.texts.proofs.Choosing.{by-test}

-- ---- two texts

-- `same` holds of equal texts alone, and of all of them
pub same-equal : (a b : List ℕ) → same a b ≡ true → a ≡ b
unfolding same
same-equal a b = (bytes_eq-Decides a b).0

pub equal-same : {a b : List ℕ} → a ≡ b → same a b ≡ true
unfolding same
equal-same {a} {b} = (bytes_eq-Decides a b).1

pub same-lengths : (a b : List ℕ) → (length a ≡ length b → ⊥) → false ≡ same a b
same-lengths a b n =
    by-test (same a b)
    (λ t. absurd (n (ap length (same-equal a b t))))
    (λ f. sym f)

-- ---- a text at the front of another

pub starts-yes : (n x : ℕ) (ns xs : List ℕ) → eqb x n ≡ true → starts_with (n ∷ ns) (x ∷ xs) ≡ starts_with ns xs
unfolding starts_with
starts-yes n x ns xs t = let e = eq-eqb n x (sym (eqb-true x n t)) in rw e

pub starts-no : (n x : ℕ) (ns xs : List ℕ) → eqb x n ≡ false → starts_with (n ∷ ns) (x ∷ xs) ≡ false
unfolding starts_with
starts-no n x ns xs f = let e = ne_eqb n x (λ z. eqb-false x n f (sym z)) in rw e

pub starts-byte : (n x : ℕ) (s : List ℕ) → starts_with (n ∷ []) (x ∷ s) ≡ eqb x n
unfolding starts_with
starts-byte n x s = by-test (eqb x n) (λ t. starts-yes n x [] s t ∙ sym t) (λ f. starts-no n x [] s f ∙ sym f)

-- it stands there if it is what the whole begins with
pub front-is : (n s : List ℕ) → starts_with n s ≡ true → take (length n) s ≡ n
unfolding starts_with
front-is n s t = sym ((bytes_eq-Decides n (take (length n) s)).0 t)

pub is_front : (n s : List ℕ) → take (length n) s ≡ n → starts_with n s ≡ true
unfolding starts_with
is_front n s e = (bytes_eq-Decides n (take (length n) s)).1 (sym e)

-- and is no longer than the whole then
pub starts-length : (n s : List ℕ) → starts_with n s ≡ true → length n ≤ length s
starts-length n s t = omega (arith, ap length (front-is n s t), length-take (length n) s)

-- two texts, one behind the other, stand at the front if each stands in its place
pub starts-append : (a b s : List ℕ) → starts_with (a ++ b) s ≡ (starts_with a s and starts_with b (drop (length a) s))
unfolding starts_with
starts-append [] b s = refl
starts-append (n ∷ a) b [] = refl
starts-append (n ∷ a) b (x ∷ s) = ap (λ (c : Bool). eqb n x && c) (starts-append a b s) ∙ sym (and_assoc (eqb n x) _ _)

-- a text stands nowhere where it does not fit
pub starts-long : (n s : List ℕ) (at : ℕ) → length s - at < length n → false ≡ starts_with n (drop at s)
starts-long n s at h =
    by-test (starts_with n (drop at s))
    (λ t. absurd (let k : length n ≤ length (drop at s) = starts-length n (drop at s) t in omega (arith, length-drop at s)))
    (λ f. sym f)
