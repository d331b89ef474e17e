-- Laws of searches among the items for those that pass a test p: the first and the last.
use Rattle.std.proofs.Common.{◌≡◌, refl, sym, ap, ◌∙◌, Bool, true, false, List, [], ◌∷◌, ◌++◌, ℕ, zero, suc, ◌+◌, ◌-◌, ◌≤◌, ◌<◌, add-zero, add-one, arith, length, take, drop, drop_of_length-le, drop-cons, take-suc, length-take-le, Some, None}
use Rattle.std.proofs.lemmas.List.{take_all}
use Rattle.texts.specs.Choice.{pick}
use Rattle.texts.proofs.Choosing.{by-test}
use Rattle.model.specs.Schema.{Item, Schema, item_at, no_item, positions_from, first, last}
use Rattle.model.specs.Search.{ahead}
use Rattle.model.specs.internal.Store.{items_of}
use Rattle.model.proofs.Records.{by_less, length-items}

-- ---- the first from a place on

pub first-yes : (p : Item → Bool) (k : ℕ) (x : Item) (xs : List Item) → p x ≡ true → first (positions_from k p (x ∷ xs)) ≡ Some k
unfolding positions_from first
first-yes p k x xs t = rw t

pub first-no : (p : Item → Bool) (k : ℕ) (x : Item) (xs : List Item) → p x ≡ false → positions_from k p (x ∷ xs) ≡ positions_from (k + 1) p xs
unfolding positions_from
first-no p k x xs t = rw t

-- past the last item nothing is ahead; before it, one step on
module _ (p : Item → Bool) (s : Schema) (i : ℕ) where
  pub ahead-past : length s.items ≤ i → ahead p i s ≡ []
  unfolding ahead positions_from
  ahead-past h = rw (drop_of_length-le s.items h)

  pub ahead-yes : i < length s.items → p (item_at s i) ≡ true → ahead p i s ≡ i ∷ ahead p (i + 1) s
  unfolding ahead positions_from
  ahead-yes h t = rw (add-one, drop-cons s.items i no_item) (rw t (rw add-one))

  pub ahead-no : i < length s.items → p (item_at s i) ≡ false → ahead p i s ≡ ahead p (i + 1) s
  unfolding ahead
  ahead-no h t = rw (add-one, drop-cons s.items i no_item) (first-no p i (item_at s i) (drop (suc i) s.items) t ∙ rw add-one)

-- the loop of `next`, which searches from `from` on, is at i
pub record Forward (p : Item → Bool) (s : Schema) (from i : ℕ) : Type 0 where
  pub rest : ahead p i s ≡ ahead p from s

pub forward-start : {p : Item → Bool} {s : Schema} {from : ℕ} → Forward p s from from
forward-start = record { rest = refl }

module _ {p : Item → Bool} {s : Schema} {from i : ℕ} (inv : Forward p s from i) where
  pub forward-none : length s.items ≤ i → None ≡ first (ahead p from s)
  unfolding first
  forward-none h = ap first (sym (ahead-past p s i h) ∙ inv.rest)

  module _ (h : i < length s.items) {b : Bool} (eb : b ≡ p (item_at s i)) where
    pub forward-found : b ≡ true → Some i ≡ first (ahead p from s)
    unfolding first
    forward-found t = ap first (sym (ahead-yes p s i h (sym eb ∙ t)) ∙ inv.rest)

    pub forward-on : b ≡ false → Forward p s from (i + 1)
    forward-on t = record { rest = sym (ahead-no p s i h (sym eb ∙ t)) ∙ inv.rest }

-- ---- the head of what is ahead

none-some : {j : ℕ} → first [] ≡ Some j → ⊥
unfolding first
none-some e = cc

first_is : {j m : ℕ} (l : List ℕ) → first (m ∷ l) ≡ Some j → m ≡ j
unfolding first
first_is l e = cc

none-more : (m : ℕ) (l : List ℕ) → first (m ∷ l) ≡ None → ⊥
unfolding first
none-more m l e = cc

pub ahead-none : {l : List ℕ} → first l ≡ None → l ≡ []
ahead-none {l = []} e = refl
ahead-none {l = m ∷ l} e = absurd (none-more m l e)

module _ (p : Item → Bool) (s : Schema) where
  -- k more items from i on are searched
  heads : (k i : ℕ) → length s.items ≤ i + k → (j : ℕ) → first (ahead p i s) ≡ Some j → ahead p i s ≡ j ∷ ahead p (j + 1) s
  heads zero i h j e = absurd (none-some (rw (ahead-past p s i (omega arith)) at e))
  heads (suc k) i h j e =
      by_less i (length s.items)
      (λ l. by-test (p (item_at s i))
      (λ t. let q = ahead-yes p s i l t in let z = first_is _ (rw q at e) in q ∙ ap (λ m. m ∷ ahead p (m + 1) s) z)
      (λ f. let q = ahead-no p s i l f in q ∙ heads k (i + 1) (omega arith) j (rw q at e)))
      (λ l. absurd (none-some (rw (ahead-past p s i l) at e)))

  pub ahead-some : (i : ℕ) (j : ℕ) → first (ahead p i s) ≡ Some j → ahead p i s ≡ j ∷ ahead p (j + 1) s
  ahead-some i j e = heads (length s.items) i (omega arith) j e

  pub ahead-within : (k i : ℕ) → length s.items ≤ i + k → (j : ℕ) → first (ahead p i s) ≡ Some j → (i ≤ j) × (j < length s.items)
  ahead-within zero i h j e = absurd (none-some (rw (ahead-past p s i (omega arith)) at e))
  ahead-within (suc k) i h j e =
      by_less i (length s.items)
      (λ l. by-test (p (item_at s i))
      (λ t. let z = first_is _ (rw (ahead-yes p s i l t) at e) in (omega arith, omega arith))
      (λ f. let q = ahead-within k (i + 1) (omega arith) j (rw (ahead-no p s i l f) at e) in (omega arith, omega arith)))
      (λ l. absurd (none-some (rw (ahead-past p s i l) at e)))

-- ---- the last

pub last_snoc : (is : List ℕ) (k : ℕ) → last (is ++ (k ∷ [])) ≡ Some k
unfolding last
last_snoc [] k = refl
last_snoc (i ∷ []) k = refl
last_snoc (i ∷ j ∷ is) k = last_snoc (j ∷ is) k

pub positions-snoc : (p : Item → Bool) (k : ℕ) (xs : List Item) (x : Item) → positions_from k p (xs ++ (x ∷ [])) ≡ positions_from k p xs ++ pick (p x) ((k + length xs) ∷ []) []
unfolding positions_from
positions-snoc p k [] x = rw add-zero
positions-snoc p k (y ∷ ys) x =
    let z : k + 1 + length ys ≡ k + suc (length ys) = omega arith in
    let ih = rw z at (positions-snoc p (k + 1) ys x) in
    go (p y) ih
  where
    go : (b : Bool) → positions_from (k + 1) p (ys ++ (x ∷ [])) ≡ positions_from (k + 1) p ys ++ pick (p x) ((k + suc (length ys)) ∷ []) [] → pick b (k ∷ positions_from (k + 1) p (ys ++ (x ∷ []))) (positions_from (k + 1) p (ys ++ (x ∷ []))) ≡ pick b (k ∷ positions_from (k + 1) p ys) (positions_from (k + 1) p ys) ++ pick (p x) ((k + suc (length ys)) ∷ []) []
    go true e = ap (λ l. k ∷ l) e
    go false e = e

pub append-none : (l : List ℕ) → l ++ [] ≡ l
append-none [] = refl
append-none (x ∷ l) = ap (λ t. x ∷ t) (append-none l)

-- among the first n items, and one more
module _ (p : Item → Bool) (s : Schema) (n : ℕ) (h : n < length s.items) where
  front : take (n + 1) s.items ≡ take n s.items ++ (item_at s n ∷ [])
  front = rw add-one (take-suc s.items n no_item h)

  many : 0 + length (take n s.items) ≡ n
  many = let e = length-take-le n s.items (omega arith) in omega arith

  pub last-yes : p (item_at s n) ≡ true → last (positions_from 0 p (take (n + 1) s.items)) ≡ Some n
  last-yes t = rw (front, positions-snoc p 0 (take n s.items) (item_at s n), t, many) (last_snoc (positions_from 0 p (take n s.items)) n)

  pub last-no : p (item_at s n) ≡ false → last (positions_from 0 p (take (n + 1) s.items)) ≡ last (positions_from 0 p (take n s.items))
  last-no t = rw (front, positions-snoc p 0 (take n s.items) (item_at s n), t, append-none)

-- the loop of `last` has the first n items left to search
pub record Backward (p : Item → Bool) (s : Schema) (n : ℕ) : Type 0 where
  pub back : last (positions_from 0 p (take n s.items)) ≡ last (positions_from 0 p s.items)
  pub within : n ≤ length s.items

pub backward-start : {p : Item → Bool} {s : Schema} → Backward p s (length s.items)
backward-start {p} {s} = record { back = rw (take_all (length s.items) s.items (omega arith)); within = omega arith }

module _ {p : Item → Bool} {s : Schema} {n : ℕ} (inv : Backward p s n) where
  pub backward-none : n ≤ 0 → None ≡ last (positions_from 0 p s.items)
  unfolding positions_from last
  backward-none h = let z : n ≡ 0 = omega arith in rw z at inv.back

  module _ (h : 0 < n) {b : Bool} (eb : b ≡ p (item_at s (n - 1))) where
    up : n - 1 + 1 ≡ n
    up = omega arith

    there : n - 1 < length s.items
    there = let w = inv.within in omega arith

    pub backward-found : b ≡ true → Some (n - 1) ≡ last (positions_from 0 p s.items)
    backward-found t = sym (rw up at (last-yes p s (n - 1) there (sym eb ∙ t))) ∙ inv.back

    pub backward-on : b ≡ false → Backward p s (n - 1)
    backward-on t = let w = inv.within in record { back = sym (rw up at (last-no p s (n - 1) there (sym eb ∙ t))) ∙ inv.back; within = omega arith }

-- the last that passes is an item of the schema
module _ (p : Item → Bool) (s : Schema) {i : ℕ} where
  low : (n : ℕ) → n ≤ length s.items → last (positions_from 0 p (take n s.items)) ≡ Some i → i < length s.items
  unfolding positions_from last
  low zero h q = absurd (cc q)
  low (suc n) h q =
      by-test (p (item_at s n))
      (λ t. let z : n ≡ i = cc (rw add-one at (last-yes p s n (omega arith) t)) in omega arith)
      (λ f. low n (omega arith) (sym (rw add-one at (last-no p s n (omega arith) f)) ∙ q))

  pub last-below : last (positions_from 0 p s.items) ≡ Some i → i < length s.items
  last-below e = low (length s.items) (omega arith) (rw (take_all (length s.items) s.items (omega arith)) e)

pub last_in : (p : Item → Bool) (n : ℕ) (rec text : List ℕ) {i : ℕ} → last (positions_from 0 p (items_of n rec text)) ≡ Some i → i < n
last_in p n rec text e = let h = last-below p (record { package_name = []; id = 0; version = 0; items = items_of n rec text }) e in omega (arith, length-items n rec text)
