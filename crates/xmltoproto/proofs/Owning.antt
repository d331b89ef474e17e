-- Sums over the items by owner: no item is counted twice, since it has one owner.
use Rattle.std.proofs.Common.{◌≡◌, refl, sym, Bool, true, false, List, [], ◌∷◌, ℕ, zero, suc, ◌+◌, ◌≤◌, ◌<◌, arith, eqb, length, get_or, length-append, eq-eqb, ne_eqb, eqb-true}
use borrow.Author.Tests.{eqb-false}
use Rattle.texts.specs.Choice.{pick, ◌and◌}
use Rattle.texts.specs.Lists.{each, numbered}
use Rattle.texts.proofs.Choosing.{by-test}
use Rattle.model.specs.Schema.{Item, Schema, no_item, item_at, positions_from}

-- ---- sums over the places below n

unfoldable pub sum_to : (ℕ → ℕ) → ℕ → ℕ
sum_to g zero = 0
sum_to g (suc n) = sum_to g n + g n

pub sum_less : (g h : ℕ → ℕ) → ((i : ℕ) → g i ≤ h i) → (n : ℕ) → sum_to g n ≤ sum_to h n
unfolding sum_to
sum_less g h l zero = omega arith
sum_less g h l (suc n) = omega (arith, l n, sum_less g h l n)

sum-front : (g : ℕ → ℕ) (n : ℕ) → sum_to g (suc n) ≡ g 0 + sum_to (λ i. g (suc i)) n
unfolding sum_to
sum-front g zero = omega arith
sum-front g (suc n) = omega (arith, sum-front g n)

-- where only the place o counts, it counts once
sum-none : (g : ℕ → ℕ) (o : ℕ) → ((i : ℕ) → (i ≡ o → ⊥) → g i ≡ 0) → (n : ℕ) → n ≤ o → sum_to g n ≡ 0
unfolding sum_to
sum-none g o z zero l = refl
sum-none g o z (suc n) l = omega (arith, sum-none g o z n (omega arith), z n (λ e. omega arith))

sum-once : (g : ℕ → ℕ) (o : ℕ) → ((i : ℕ) → (i ≡ o → ⊥) → g i ≡ 0) → (n : ℕ) → sum_to g n ≤ g o
unfolding sum_to
sum-once g o z zero = omega arith
sum-once g o z (suc n) =
    by-test (eqb n o)
    (λ t. let e : n ≡ o = eqb-true n o t in rw e (omega (arith, sum-none g o z o (omega arith))))
    (λ f. omega (arith, sum-once g o z n, z n (eqb-false n o f)))

sum-apart : (P : ℕ → Bool) (a x y : ℕ → ℕ) (n : ℕ) → sum_to (λ e. pick (P e) (a e + (x e + y e)) 0) n ≤ sum_to (λ e. pick (P e) (a e + x e) 0) n + sum_to (λ e. pick (P e) (y e) 0) n
unfolding sum_to
sum-apart P a x y zero = omega arith
sum-apart P a x y (suc n) = omega (arith, sum-apart P a x y n, go (P n) (a n) (x n) (y n))
  where
    go : (b : Bool) (p q r : ℕ) → pick b (p + (q + r)) 0 ≤ pick b (p + q) 0 + pick b r 0
    go true p q r = omega arith
    go false p q r = omega arith

pub and-less : (a b : Bool) (x : ℕ) → pick (a and b) x 0 ≤ pick a x 0
and-less true true x = omega arith
and-less true false x = omega arith
and-less false b x = omega arith

-- ---- sums by owner: P says which places own, Q which are owned, by o

module _ (P Q : ℕ → Bool) (o : ℕ → ℕ) (N : ℕ) where
  -- what the place v adds to the sum of its owner
  one-owner : (h : ℕ → ℕ → ℕ) (v : ℕ) → sum_to (λ e. pick (P e) (pick (Q v and eqb (o v) e) (h e v) 0) 0) N ≤ pick (Q v and P (o v)) (h (o v) v) 0
  one-owner h v = omega (arith, sum-once (λ e. pick (P e) (pick (Q v and eqb (o v) e) (h e v) 0) 0) (o v) other N, own (P (o v)) (Q v))
    where
      other : (i : ℕ) → (i ≡ o v → ⊥) → pick (P i) (pick (Q v and eqb (o v) i) (h i v) 0) 0 ≡ 0
      other i z = rw (ne_eqb (o v) i (λ e. z (sym e))) (none (P i) (Q v))
        where
          none : (p q : Bool) → pick p (pick (q and false) (h i v) 0) 0 ≡ 0
          none true true = refl
          none true false = refl
          none false q = refl

      own : (p q : Bool) → pick p (pick (q and eqb (o v) (o v)) (h (o v) v) 0) 0 ≤ pick (q and p) (h (o v) v) 0
      own true true = rw (eq-eqb (o v) (o v) refl) (omega arith)
      own true false = omega arith
      own false q = omega arith

  pub by-owner : (a : ℕ → ℕ) (h : ℕ → ℕ → ℕ) (n : ℕ)
      → sum_to (λ e. pick (P e) (a e + sum_to (λ v. pick (Q v and eqb (o v) e) (h e v) 0) n) 0) N ≤ sum_to (λ e. pick (P e) (a e) 0) N + sum_to (λ v. pick (Q v and P (o v)) (h (o v) v) 0) n
  unfolding sum_to
  by-owner a h zero = omega (arith, sum_less (λ e. pick (P e) (a e + 0) 0) (λ e. pick (P e) (a e) 0) (λ e. alone (P e) (a e)) N)
    where
      alone : (b : Bool) (x : ℕ) → pick b (x + 0) 0 ≤ pick b x 0
      alone true x = omega arith
      alone false x = omega arith
  by-owner a h (suc n) =
      omega
      (arith, sum-apart P a (λ e. sum_to (λ v. pick (Q v and eqb (o v) e) (h e v) 0) n) (λ e. pick (Q n and eqb (o n) e) (h e n) 0) N, by-owner a h n, one-owner h n)

-- whatever their owner
pub any-owner : (P Q : ℕ → Bool) (o g : ℕ → ℕ) (n : ℕ) → sum_to (λ v. pick (Q v and P (o v)) (g v) 0) n ≤ sum_to (λ v. pick (Q v) (g v) 0) n
any-owner P Q o g n = sum_less (λ v. pick (Q v and P (o v)) (g v) 0) (λ v. pick (Q v) (g v) 0) (λ v. and-less (Q v) (P (o v)) (g v)) n

-- no owner is of two sorts
pub two-owners : (P R Q : ℕ → Bool) (o g : ℕ → ℕ) → ((i : ℕ) → P i ≡ true → R i ≡ true → ⊥) → (n : ℕ)
    → sum_to (λ v. pick (Q v and P (o v)) (g v) 0) n + sum_to (λ v. pick (Q v and R (o v)) (g v) 0) n ≤ sum_to (λ v. pick (Q v) (g v) 0) n
unfolding sum_to
two-owners P R Q o g z zero = omega arith
two-owners P R Q o g z (suc n) = omega (arith, two-owners P R Q o g z n, go (P (o n)) (R (o n)) (Q n) (z (o n)))
  where
    go : (p r q : Bool) → (p ≡ true → r ≡ true → ⊥) → pick (q and p) (g n) 0 + pick (q and r) (g n) 0 ≤ pick q (g n) 0
    go true true q y = absurd (y refl refl)
    go true false true y = omega arith
    go true false false y = omega arith
    go false r true y = pick_less r
      where
        pick_less : (b : Bool) → 0 + pick b (g n) 0 ≤ g n
        pick_less true = omega arith
        pick_less false = omega arith
    go false r false y = omega arith

-- ---- sums over positions

unfoldable pub total : (ℕ → ℕ) → List ℕ → ℕ
total g [] = 0
total g (i ∷ l) = g i + total g l

pub each-total : (f : ℕ → List ℕ) (g : ℕ → ℕ) → ((i : ℕ) → length (f i) ≤ g i) → (l : List ℕ) → length (each f l) ≤ total g l
unfolding each total
each-total f g h [] = omega arith
each-total f g h (i ∷ l) = omega (arith, length-append (f i) (each f l), h i, each-total f g h l)

pub numbered_total : (f : ℕ → ℕ → List ℕ) (g : ℕ → ℕ) → ((k i : ℕ) → k < 4294967296 → length (f k i) ≤ g i) → (k : ℕ) (l : List ℕ) → k + length l ≤ 4294967296 → length (numbered f k l) ≤ total g l
unfolding numbered total
numbered_total f g h k [] m = omega arith
numbered_total f g h k (i ∷ l) m = omega (arith, length-append (f k i) (numbered f (k + 1) l), h k i (omega arith), numbered_total f g h (k + 1) l (omega arith))

total-from : (g : ℕ → ℕ) (q : Item → Bool) (k : ℕ) (ys : List Item) → total g (positions_from k q ys) ≤ sum_to (λ j. pick (q (get_or ys j no_item)) (g (k + j)) 0) (length ys)
unfolding total positions_from
total-from g q k [] = omega arith
total-from g q k (y ∷ ys) =
    omega (
      arith,
      go (q y) (positions_from (k + 1) q ys),
      total-from g q (k + 1) ys,
      sum-front (λ j. pick (q (get_or (y ∷ ys) j no_item)) (g (k + j)) 0) (length ys),
      sum_less (λ j. pick (q (get_or ys j no_item)) (g (k + 1 + j)) 0) (λ j. pick (q (get_or ys j no_item)) (g (k + suc j)) 0) more (length ys),
    )
  where
    go : (b : Bool) (l : List ℕ) → total g (pick b (k ∷ l) l) ≤ pick b (g (k + 0)) 0 + total g l
    go true l = let z : k + 0 ≡ k = omega arith in rw z (omega arith)
    go false l = omega arith

    more : (j : ℕ) → pick (q (get_or ys j no_item)) (g (k + 1 + j)) 0 ≤ pick (q (get_or ys j no_item)) (g (k + suc j)) 0
    more j = let z : k + 1 + j ≡ k + suc j = omega arith in rw z (omega arith)

pub total-positions : (g : ℕ → ℕ) (q : Item → Bool) (s : Schema) → total g (positions_from 0 q s.items) ≤ sum_to (λ i. pick (q (item_at s i)) (g i) 0) (length s.items)
total-positions g q s =
    omega (arith, total-from g q 0 s.items, sum_less (λ j. pick (q (item_at s j)) (g (0 + j)) 0) (λ j. pick (q (item_at s j)) (g j) 0) same (length s.items))
  where
    same : (j : ℕ) → pick (q (item_at s j)) (g (0 + j)) 0 ≤ pick (q (item_at s j)) (g j) 0
    same j = let z : 0 + j ≡ j = omega arith in rw z (omega arith)
