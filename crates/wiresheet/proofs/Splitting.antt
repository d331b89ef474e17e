-- Texts that can be read in one way only: a combinator for each part that the source is printed of.
use Rattle.std.proofs.Common.{◌≡◌, refl, sym, ◌∙◌, subst, Bool, true, false, not, List, [], ◌∷◌, ◌++◌, append_assoc, ℕ, ◌+◌, T, eqb, T_not}
use mathlib.Core.List.{append_cancel_left, head-eq_of_cons-eq, tail-eq_of_cons-eq}
use lib.Dec.{eqb_refl}
use Rattle.texts.proofs.Choosing.{and_left, and_right}
use Rattle.texts.specs.Lists.{each, numbered, all, Every}

-- append that nests to the right
infixr 64 ◌▹◌
abbrev pub ◌▹◌ : List ℕ → List ℕ → List ℕ
u ▹ v = u ++ v

-- where u followed by x and v followed by y are one text, G holds and x is y
pub record Splits (u v : List ℕ) (G : Type 0) : Type 0 where
  pub split : (x y : List ℕ) → u ++ x ≡ v ++ y → G × (x ≡ y)

-- the end: one and the same text is left
pub done : {G : Type 0} (w : List ℕ) → G → Splits w w G
done w g = record { split = λ x y e. (g, append_cancel_left w x y e) }

-- what determines E, and then
pub seq : {s t u v : List ℕ} {E G : Type 0} → Splits s t E → (E → Splits u v G) → Splits (s ++ u) (t ++ v) G
seq {s} {t} {u} {v} p k =
    record {
      split = λ x y e. let r = p.split (u ++ x) (v ++ y) (sym (append_assoc s u x) ∙ e ∙ append_assoc t v y) in (k r.0).split x y r.1;
    }

-- a literal, and then
pub lit : {u v : List ℕ} {G : Type 0} (w : List ℕ) → Splits u v G → Splits (w ++ u) (w ++ v) G
lit w p = seq (done {G = Unit {0}} w tt) (λ _. p)

pub gives : {u v : List ℕ} {E G : Type 0} → Splits u v E → (E → G) → Splits u v G
gives p f = record { split = λ x y e. let r = p.split x y e in (f r.0, r.1) }

pub flip : {u v : List ℕ} {G : Type 0} → Splits u v G → Splits v u G
flip p = record { split = λ x y e. let r = p.split y x (sym e) in (r.0, sym r.1) }

-- two texts that always differ still do with more after one of them
pub clash : {s u : List ℕ} {G : Type 0} (w : List ℕ) → Splits s u ⊥ → Splits (s ++ w) u G
clash {s} w p = record { split = λ x y e. absurd (p.split (w ++ x) y (sym (append_assoc s w x) ∙ e)).0 }

-- the two differ before either ends
abbrev pub differs : List ℕ → List ℕ → Bool
differs [] v = false
differs (a ∷ u) [] = false
differs (a ∷ u) (b ∷ v) = elim (eqb a b) [ true ↦ differs u v | false ↦ true ]

differ : (u v x y : List ℕ) → T (differs u v) → u ++ x ≡ v ++ y → ⊥
differ [] v x y d e = d
differ (a ∷ u) [] x y d e = d
differ (a ∷ u) (b ∷ v) x y d e = go (λ h. differ u v x y h (tail-eq_of_cons-eq e)) (eqb a b) refl d
  where
    go : (T (differs u v) → ⊥) → (t : Bool) → eqb a b ≡ t → T (elim t [ true ↦ differs u v | false ↦ true ]) → ⊥
    go r true q h = r h
    go r false q h = rw q at (subst (λ n. T (eqb a n)) (head-eq_of_cons-eq e) (eqb_refl a))

-- such texts are never readings of one text
pub apart : {u v : List ℕ} {G : Type 0} → T (differs u v) → Splits u v G
apart {u} {v} d = record { split = λ x y e. absurd (differ u v x y d e) }

-- a byte, and then
pub byte : {u v : List ℕ} {G : Type 0} (a b : ℕ) → (a ≡ b → Splits u v G) → Splits (a ∷ u) (b ∷ v) G
byte a b k = record { split = λ x y e. (k (head-eq_of_cons-eq e)).split x y (tail-eq_of_cons-eq e) }

-- a text that begins outside the class c
abbrev pub stops : (ℕ → Bool) → List ℕ → Bool
stops c [] = false
stops c (b ∷ u) = not (c b)

stopped : {G : Type 0} (c : ℕ → Bool) (u : List ℕ) (b : ℕ) (w : List ℕ) → T (stops c u) → T (c b) → Splits u (b ∷ w) G
stopped c [] b w hu hb = absurd hu
stopped c (a ∷ u) b w hu hb = byte a b λ e. absurd (T_not (c a) hu (rw e hb))

-- a token of the class c, and then
pub token : {u v : List ℕ} {G : Type 0} (c : ℕ → Bool) (s t : List ℕ) → T (all c s) → T (all c t) → T (stops c u) → T (stops c v) → (s ≡ t → Splits u v G) → Splits (s ++ u) (t ++ v) G
unfolding all
token c [] [] hs ht hu hv k = k refl
token {u} {v} c [] (b ∷ t) hs ht hu hv k = stopped c u b (t ++ v) hu (and_left (c b) (all c t) ht)
token {u} {v} c (a ∷ s) [] hs ht hu hv k = flip (stopped c v a (s ++ u) hv (and_left (c a) (all c s) hs))
token c (a ∷ s) (b ∷ t) hs ht hu hv k =
    byte a b λ e. token c s t (and_right (c a) (all c s) hs) (and_right (c b) (all c t) ht) hu hv λ r. k λ i. e i ∷ r i

-- the elements of a list, each with its number, and then what no element begins with
module _ {A : Type 0} (p : ℕ → A → List ℕ) (Ok : A → Type 0) (one : (n : ℕ) (a b : A) → Ok a → Ok b → Splits (p n a) (p n b) (a ≡ b)) where
  pub counted
      : {u v : List ℕ} {G : Type 0} (n : ℕ) (s t : List A)
      → Every Ok s → Every Ok t
      → ((n : ℕ) (a : A) → Ok a → Splits (p n a) u ⊥)
      → ((n : ℕ) (a : A) → Ok a → Splits (p n a) v ⊥)
      → (s ≡ t → Splits u v G) → Splits (numbered p n s ++ u) (numbered p n t ++ v) G
  unfolding numbered Every
  counted n [] [] hs ht hu hv k = k refl
  counted {u} {v} n [] (b ∷ t) hs ht hu hv k = flip (clash v (clash (numbered p (n + 1) t) (hu n b ht.0)))
  counted {u} {v} n (a ∷ s) [] hs ht hu hv k = clash u (clash (numbered p (n + 1) s) (hv n a hs.0))
  counted {u} {v} n (a ∷ s) (b ∷ t) hs ht hu hv k =
      rw (append_assoc (p n a) (numbered p (n + 1) s) u, append_assoc (p n b) (numbered p (n + 1) t) v)
      (seq (one n a b hs.0 ht.0) λ e. counted (n + 1) s t hs.1 ht.1 hu hv λ r. k λ i. e i ∷ r i)

pub each-numbered : {A : Type 0} (p : A → List ℕ) (n : ℕ) (l : List A) → each p l ≡ numbered (λ _. p) n l
unfolding each numbered
each-numbered p n [] = refl
each-numbered p n (a ∷ l) = rw (each-numbered p (n + 1) l)

-- the same without numbers
module _ {A : Type 0} (p : A → List ℕ) (Ok : A → Type 0) (one : (a b : A) → Ok a → Ok b → Splits (p a) (p b) (a ≡ b)) where
  pub listed
      : {u v : List ℕ} {G : Type 0} (s t : List A)
      → Every Ok s → Every Ok t
      → ((a : A) → Ok a → Splits (p a) u ⊥)
      → ((a : A) → Ok a → Splits (p a) v ⊥)
      → (s ≡ t → Splits u v G) → Splits (each p s ++ u) (each p t ++ v) G
  listed s t hs ht hu hv k =
      rw (each-numbered p 0 s, each-numbered p 0 t) (counted (λ _. p) Ok (λ _. one) 0 s t hs ht (λ _. hu) (λ _. hv) k)
