-- The order of texts is a total order, and is std's.
use Rattle.std.proofs.Common.{◌≡◌, refl, sym, ◌∙◌, List, [], ◌∷◌, ℕ, ◌<◌, arith, eq-eqb, ne_eqb, lt-ltb, le-ltb}
use Rattle.model.proofs.Records.{by_less}
use Rattle.std.specs.declared.cmp.Ordering.TheVariants.{Less, Equal, Greater}
use Rattle.std.specs.Cmp.Lexicographic.{slice_cmp}
use Rattle.std.specs.Ordering.{nat_cmp}
use Rattle.index.specs.internal.Sorted.{order}

-- ---- laws of an order

module _ (x y : ℕ) (xs ys : List ℕ) where
  order-on : x ≡ y → order (x ∷ xs) (y ∷ ys) ≡ order xs ys
  unfolding order
  order-on e = rw (eq-eqb x y e, order)

  order-less : x < y → order (x ∷ xs) (y ∷ ys) ≡ Less
  unfolding order
  order-less l = rw (ne_eqb x y (λ e. omega arith), order, lt-ltb x y l)

  order-greater : y < x → order (x ∷ xs) (y ∷ ys) ≡ Greater
  unfolding order
  order-greater l = rw (ne_eqb x y (λ e. omega arith), order, le-ltb x y (omega arith))

-- case split: which of two numbers is less
by_order {ℓ} : {X : Type ℓ} (a b : ℕ) → (a < b → X) → (a ≡ b → X) → (b < a → X) → X
by_order a b f g h = by_less a b f (λ l. by_less b a h (λ m. g (omega arith)))

-- case split: why a text is less than another, by their first bytes
by_front {ℓ} : {X : Type ℓ} (x y : ℕ) (xs ys : List ℕ) → order (x ∷ xs) (y ∷ ys) ≡ Less → (x < y → X) → (x ≡ y → order xs ys ≡ Less → X) → X
by_front x y xs ys p f g =
    by_order x y f
    (λ e. g e (sym (order-on x y xs ys e) ∙ p))
    (λ l. absurd (let q = sym (order-greater x y xs ys l) ∙ p in let z : ◌≡◌ {A = ℕ} 0 1 = cc in omega arith))

pub order-refl : (a : List ℕ) → order a a ≡ Equal
unfolding order
order-refl [] = refl
order-refl (x ∷ xs) = order-on x x xs xs refl ∙ order-refl xs

pub order_same : (a b : List ℕ) → order a b ≡ Equal → a ≡ b
unfolding order
order_same [] [] p = refl
order_same [] (y ∷ ys) p = absurd (let z : ◌≡◌ {A = ℕ} 0 1 = cc in omega arith)
order_same (x ∷ xs) [] p = absurd (let z : ◌≡◌ {A = ℕ} 0 1 = cc in omega arith)
order_same (x ∷ xs) (y ∷ ys) p =
    by_order x y
    (λ l. absurd (let q = sym (order-less x y xs ys l) ∙ p in let z : ◌≡◌ {A = ℕ} 0 1 = cc in omega arith))
    (λ e. let q : xs ≡ ys = order_same xs ys (sym (order-on x y xs ys e) ∙ p) in cc)
    (λ l. absurd (let q = sym (order-greater x y xs ys l) ∙ p in let z : ◌≡◌ {A = ℕ} 0 1 = cc in omega arith))

pub order_trans : (a b c : List ℕ) → order a b ≡ Less → order b c ≡ Less → order a c ≡ Less
unfolding order
order_trans [] [] c p q = absurd (let z : ◌≡◌ {A = ℕ} 0 1 = cc in omega arith)
order_trans [] (y ∷ ys) [] p q = absurd (let z : ◌≡◌ {A = ℕ} 0 1 = cc in omega arith)
order_trans [] (y ∷ ys) (z ∷ zs) p q = refl
order_trans (x ∷ xs) [] c p q = absurd (let z : ◌≡◌ {A = ℕ} 0 1 = cc in omega arith)
order_trans (x ∷ xs) (y ∷ ys) [] p q = absurd (let z : ◌≡◌ {A = ℕ} 0 1 = cc in omega arith)
order_trans (x ∷ xs) (y ∷ ys) (z ∷ zs) p q =
    by_front x y xs ys p
    (λ l. by_front y z ys zs q (λ m. order-less x z xs zs (omega arith)) (λ e r. order-less x z xs zs (omega arith)))
    (λ e r. by_front y z ys zs q (λ m. order-less x z xs zs (omega arith)) (λ f t. order-on x z xs zs (e ∙ f) ∙ order_trans xs ys zs r t))

pub less-greater : (a b : List ℕ) → order a b ≡ Less → order b a ≡ Greater
unfolding order
less-greater [] [] p = absurd (let z : ◌≡◌ {A = ℕ} 0 1 = cc in omega arith)
less-greater [] (y ∷ ys) p = refl
less-greater (x ∷ xs) [] p = absurd (let z : ◌≡◌ {A = ℕ} 0 1 = cc in omega arith)
less-greater (x ∷ xs) (y ∷ ys) p = by_front x y xs ys p (λ l. order-greater y x ys xs l) (λ e r. order-on y x ys xs (sym e) ∙ less-greater xs ys r)

pub greater-less : (a b : List ℕ) → order a b ≡ Greater → order b a ≡ Less
unfolding order
greater-less [] [] p = absurd (let z : ◌≡◌ {A = ℕ} 0 1 = cc in omega arith)
greater-less [] (y ∷ ys) p = absurd (let z : ◌≡◌ {A = ℕ} 0 1 = cc in omega arith)
greater-less (x ∷ xs) [] p = refl
greater-less (x ∷ xs) (y ∷ ys) p =
    by_order x y
    (λ l. absurd (let q = sym (order-less x y xs ys l) ∙ p in let z : ◌≡◌ {A = ℕ} 0 1 = cc in omega arith))
    (λ e. order-on y x ys xs (sym e) ∙ greater-less xs ys (sym (order-on x y xs ys e) ∙ p))
    (λ l. order-less y x ys xs l)

-- std's order of two texts is this one
pub order-is : (a b : List ℕ) → slice_cmp nat_cmp a b ≡ order a b
unfolding order
order-is [] [] = refl
order-is [] (y ∷ ys) = refl
order-is (x ∷ xs) [] = refl
order-is (x ∷ xs) (y ∷ ys) =
    by_order x y
    (λ l. let q : nat_cmp x y ≡ Less = rw (lt-ltb x y l) in rw q (sym (order-less x y xs ys l)))
    (λ e. let q : nat_cmp x y ≡ Equal = rw (le-ltb x y (omega arith), eq-eqb x y e) in rw q (order-is xs ys ∙ sym (order-on x y xs ys e)))
    (λ l. let q : nat_cmp x y ≡ Greater = rw (le-ltb x y (omega arith), ne_eqb x y (λ e. omega arith)) in rw q (sym (order-greater x y xs ys l)))
