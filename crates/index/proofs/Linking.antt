-- The links of the items from a position on, and of one more before them.
use Rattle.std.proofs.Common.{◌≡◌, sym, ap, ◌∙◌, Some, None, List, ℕ, suc, ◌+◌, ◌*◌, ◌≤◌, ◌<◌, add-one, arith, eqb, length, get_or, drop, drop_of_length-le, drop-cons, eqb-true, eq-eqb}
use Rattle.texts.proofs.Choosing.{by-test, both_true}
use Rattle.model.specs.Schema.{Schema, item_at, no_item, positions_from, first, next_under}
use Rattle.model.proofs.Records.{by_less}
use Rattle.model.proofs.Searching.{first-yes, first-no}
use Rattle.model.specs.Schema.{is_under}
use Rattle.index.proofs.Numbering.{by_equal}
use Rattle.index.specs.Blank.{kinds, per_item}
use Rattle.index.specs.internal.Index.{code, fronted, Linked}
use Rattle.index.proofs.Fronting.{fronted-head, fronted-at, fronted-other}

-- ---- one step of the model's search from an owner

pub under-end : (s : Schema) (k o j : ℕ) → length s.items ≤ j → next_under k o j s ≡ None
unfolding next_under positions_from first
under-end s k o j h = rw (drop_of_length-le s.items h)

module _ (s : Schema) (k o j : ℕ) (h : j < length s.items) where
  pub under-hit : (item_at s j).kind ≡ k → (item_at s j).owner ≡ o → next_under k o j s ≡ Some j
  unfolding next_under
  under-hit ek eo = rw (drop-cons s.items j no_item) (first-yes (is_under k o) j (item_at s j) (drop (suc j) s.items) (rw (eq-eqb (item_at s j).kind k ek, eq-eqb (item_at s j).owner o eo)))

  pub under-miss : ((item_at s j).kind ≡ k → (item_at s j).owner ≡ o → ⊥) → next_under k o j s ≡ next_under k o (j + 1) s
  unfolding next_under
  under-miss n =
      by-test (is_under k o (item_at s j))
      (λ t. let e = both_true (eqb (item_at s j).kind k) (eqb (item_at s j).owner o) t in absurd (n (eqb-true (item_at s j).kind k e.0) (eqb-true (item_at s j).owner o e.1)))
      (λ f. ap first (rw (add-one, drop-cons s.items j no_item) (first-no (is_under k o) j (item_at s j) (drop (suc j) s.items) f ∙ rw add-one)))

-- ---- the links

-- no item is linked yet
pub linked-start : (s : Schema) (ix : List ℕ) → ((k o : ℕ) → k < kinds → o < length s.items → get_or ix (per_item * o + 2 + k) 0 ≡ 0) → (n : ℕ) → length s.items ≤ n → Linked s n ix
linked-start s ix z n h =
    record {
      first = λ k o hk ho. z k o hk ho ∙ ap code (sym (under-end s k o n h));
      next = λ j l b hk ho. absurd (omega arith);
    }

module _ (s : Schema) (ix : List ℕ) (j : ℕ) (l : Linked s (j + 1) ix) (h : j < length s.items) where
  -- an item with a kind below 10 and an owner among the items
  module _ (big : per_item * length s.items ≤ length ix) (hk : (item_at s j).kind < kinds) (ho : (item_at s j).owner < length s.items) where
    linked-first : (k o : ℕ) → k < kinds → o < length s.items → get_or (fronted ix (per_item * (item_at s j).owner + 2 + (item_at s j).kind) (per_item * j) j) (per_item * o + 2 + k) 0 ≡ code (next_under k o j s)
    linked-first k o bk bo =
        by_equal k (item_at s j).kind
        (λ ek. by_equal o (item_at s j).owner
        (λ eo. let z : per_item * o + 2 + k ≡ per_item * (item_at s j).owner + 2 + (item_at s j).kind = omega arith in
        ap (λ n. get_or (fronted ix (per_item * (item_at s j).owner + 2 + (item_at s j).kind) (per_item * j) j) n 0) z ∙ fronted-head ix _ (per_item * j) j (omega arith) ∙ ap code (sym (under-hit s k o j h (sym ek) (sym eo))))
        (λ no. other (λ e f. no (sym f))))
        (λ nk. other (λ e f. nk (sym e)))
      where
        other : ((item_at s j).kind ≡ k → (item_at s j).owner ≡ o → ⊥) → get_or (fronted ix (per_item * (item_at s j).owner + 2 + (item_at s j).kind) (per_item * j) j) (per_item * o + 2 + k) 0 ≡ code (next_under k o j s)
        other n = fronted-other ix _ (per_item * j) j (per_item * o + 2 + k) (λ e. n (omega arith) (omega arith)) (λ e. omega arith) ∙ l.first k o bk bo ∙ ap code (sym (under-miss s k o j h n))

    linked-this : get_or (fronted ix (per_item * (item_at s j).owner + 2 + (item_at s j).kind) (per_item * j) j) (per_item * j) 0 ≡ code (next_under (item_at s j).kind (item_at s j).owner (j + 1) s)
    linked-this = fronted-at ix _ (per_item * j) j (omega arith) (λ e. omega arith) ∙ l.first (item_at s j).kind (item_at s j).owner hk ho

    pub linked_on : Linked s j (fronted ix (per_item * (item_at s j).owner + 2 + (item_at s j).kind) (per_item * j) j)
    linked_on =
        record {
          first = linked-first;
          next = λ i a b bk bo. by_less j i
              (λ c. fronted-other ix _ (per_item * j) j (per_item * i) (λ e. omega arith) (λ e. omega arith) ∙ l.next i (omega arith) b bk bo)
              (λ c. let e : i ≡ j = omega arith in rw e linked-this);
        }

  -- any other
  pub linked-off : ((item_at s j).kind < kinds → (item_at s j).owner < length s.items → ⊥) → Linked s j ix
  linked-off n =
      record {
        first = λ k o bk bo. l.first k o bk bo ∙ ap code (sym (under-miss s k o j h (λ e f. n (omega arith) (omega arith))));
        next = λ i a b bk bo. by_less j i
            (λ c. l.next i (omega arith) b bk bo)
            (λ c. let e : i ≡ j = omega arith in absurd (n (rw e at bk) (rw e at bo)));
      }

-- the chains are not part of the links
pub linked-frame : (s : Schema) (i : ℕ) (ix ix' : List ℕ) → ((k o : ℕ) → k < kinds → get_or ix' (per_item * o + 2 + k) 0 ≡ get_or ix (per_item * o + 2 + k) 0) → ((j : ℕ) → get_or ix' (per_item * j) 0 ≡ get_or ix (per_item * j) 0) → Linked s i ix → Linked s i ix'
linked-frame s i ix ix' f g l =
    record {
      first = λ k o bk bo. f k o bk ∙ l.first k o bk bo;
      next = λ j a b bk bo. g j ∙ l.next j a b bk bo;
    }
