-- Bisection of sorted names.
use Rattle.std.proofs.Common.{◌≡◌, sym, ap, ◌∙◌, List, ℕ, ◌+◌, ◌≤◌, ◌<◌, arith, get_or, Ok, Err}
use Rattle.model.proofs.Records.{by_less}
use Rattle.model.specs.Schema.{Schema, item_at}
use Rattle.std.specs.declared.cmp.Ordering.{Ordering}
use Rattle.std.specs.declared.cmp.Ordering.TheVariants.{Less, Equal, Greater}
use Rattle.index.specs.internal.Sorted.{order, name_at, Rising, Placed}
use Rattle.index.proofs.Numbering.{by_equal}
use Rattle.index.proofs.Comparing.{order_same, order_trans, less-greater, greater-less}

-- the names below `low` are less, and those from `high` on greater
pub record Halving (s : Schema) (names : List ℕ) (n : ℕ) (name : List ℕ) (low high : ℕ) : Type 0 where
  pub apart : low ≤ high
  pub within : high ≤ n
  pub less : (a : ℕ) → a < low → order (name_at s names a) name ≡ Less
  pub greater : (a : ℕ) → high ≤ a → a < n → order (name_at s names a) name ≡ Greater

pub halving-start : (s : Schema) (names : List ℕ) {n : ℕ} (name : List ℕ) → Halving s names n name 0 n
halving-start s names name = record { apart = omega arith; within = omega arith; less = λ a l. absurd (omega arith); greater = λ a l m. absurd (omega arith) }

pub halving-end : (s : Schema) (names : List ℕ) {n : ℕ} (name : List ℕ) {low high : ℕ} → Halving s names n name low high → high ≤ low → Placed s names n name (Err low)
halving-end s names {n} name {low} {high} v h =
    let e : high ≡ low = omega arith in
    record {
      at = λ p q. absurd (let z : ◌≡◌ {A = ℕ} 0 1 = cc in omega arith);
      before = λ p q. let z : low ≡ p = cc in (omega arith, (λ a l. v.less a (omega arith)), (λ a l m. v.greater a (omega arith) m));
    }

module _ (s : Schema) (names : List ℕ) {n : ℕ} (r : Rising s names n) (name : List ℕ) {low high : ℕ} (v : Halving s names n name low high) {mid : ℕ} (a : low ≤ mid) (b : mid < high) {i : ℕ} (ei : i ≡ get_or names mid 0) {w : List ℕ} (ew : w ≡ (item_at s i).name) {o : Ordering} (eo : o ≡ order w name) where
  told : o ≡ order (name_at s names mid) name
  told = eo ∙ ap (λ x. order x name) (ew ∙ ap (λ x. (item_at s x).name) ei)

  pub halving-same : o ≡ Equal → Placed s names n name (Ok mid)
  halving-same q =
      record {
        at = λ p z. let y : mid ≡ p = cc in let w = v.within in (omega arith, rw (← y) (order_same (name_at s names mid) name (sym told ∙ q)));
        before = λ p z. absurd (let y : ◌≡◌ {A = ℕ} 0 1 = cc in omega arith);
      }

  pub halving-less : o ≡ Less → Halving s names n name (mid + 1) high
  halving-less q =
      record {
        apart = omega arith;
        within = v.within;
        less = λ c l. by_equal c mid (λ z. rw z (sym told ∙ q)) (λ z. let y = v.within in order_trans (name_at s names c) (name_at s names mid) name (r.up c mid (below c l z) (omega arith)) (sym told ∙ q));
        greater = v.greater;
      }
    where
      below : (c : ℕ) → c < mid + 1 → (c ≡ mid → ⊥) → c < mid
      below c l z = by_less c mid (λ k. k) (λ k. absurd (z (omega arith)))

  pub halving-greater : o ≡ Greater → Halving s names n name low mid
  halving-greater q =
      record {
        apart = a;
        within = let y = v.within in omega arith;
        less = v.less;
        greater = λ c l k. by_equal c mid (λ z. rw z (sym told ∙ q)) (λ z. less-greater name (name_at s names c) (order_trans name (name_at s names mid) (name_at s names c) (greater-less (name_at s names mid) name (sym told ∙ q)) (r.up mid c (above c l z) k)));
      }
    where
      above : (c : ℕ) → mid ≤ c → (c ≡ mid → ⊥) → mid < c
      above c l z = by_less mid c (λ k. k) (λ k. absurd (z (omega arith)))
