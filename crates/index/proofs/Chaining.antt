-- The hash chains of the first items' names, and of one more.
use Rattle.std.proofs.Common.{◌≡◌, refl, sym, ap, ◌∙◌, Bool, true, false, Option, Some, None, List, ℕ, zero, suc, ◌+◌, ◌*◌, ◌-◌, ◌≤◌, ◌<◌, add-one, arith, T, eqb, length, get_or, set, get_or-set_other, eqb-true, eq-eqb}
use Rattle.texts.proofs.Choosing.{by-test, both_true, is_true}
use Rattle.model.specs.Schema.{Item, Schema, item_at, positions_from, last}
use Rattle.model.proofs.Records.{by_less}
use Rattle.model.proofs.Searching.{last-yes, last-no}
use Rattle.index.specs.Declarations.{declares}
use Rattle.index.specs.internal.Sorted.{last_by}
use Rattle.index.proofs.Numbering.{by_equal}
use Rattle.index.specs.Blank.{per_item, mask_of}
use Rattle.index.specs.internal.Index.{code, fronted, chain_of, hashed, last_hashed, Chained}
use Rattle.index.proofs.Fronting.{fronted-head, fronted-at, fronted-other}

-- ---- the last of the first n items that pass a test

-- where p implies q, the last that passes p is found from the last that passes q
module _ (p q : Item → Bool) (s : Schema) (narrow : (it : Item) → p it ≡ true → q it ≡ true) where
  missed : (it : Item) → q it ≡ false → p it ≡ false
  missed it f = by-test (p it) (λ t. absurd (let e = sym (narrow it t) ∙ f in let z : ◌≡◌ {A = ℕ} 0 1 = cc in omega arith)) (λ g. g)

  pub none_passes : (n : ℕ) → n ≤ length s.items → last_by q n s ≡ None → last_by p n s ≡ None
  unfolding positions_from last
  none_passes zero h e = refl
  none_passes (suc n) h e =
      by-test (q (item_at s n))
      (λ t. absurd (let w : Some n ≡ None = sym (last-yes q s n h t) ∙ (rw add-one e) in let z : ◌≡◌ {A = ℕ} 0 1 = cc (w) in omega arith))
      (λ f. let u : last_by q n s ≡ None = sym (last-no q s n h f) ∙ (rw add-one e) in
      let v : last_by p (n + 1) s ≡ None = last-no p s n h (missed (item_at s n) f) ∙ none_passes n (omega arith) u in rw add-one at v)

  pub some-passes : (n : ℕ) → n ≤ length s.items → (j : ℕ) → last_by q n s ≡ Some j → (j < n) × (q (item_at s j) ≡ true) × (last_by p n s ≡ last_by p (j + 1) s)
  unfolding positions_from last
  some-passes zero h j e = absurd (let z : ◌≡◌ {A = ℕ} 0 1 = cc in omega arith)
  some-passes (suc n) h j e =
      by-test (q (item_at s n))
      (λ t. let w : Some n ≡ Some j = sym (last-yes q s n h t) ∙ (rw add-one e) in
      let z : n ≡ j = cc (w) in
      (omega arith, rw (sym z) t, rw (sym z, add-one)))
      (λ f. let u : last_by q n s ≡ Some j = sym (last-no q s n h f) ∙ (rw add-one e) in
      let ih = some-passes n (omega arith) j u in
      let l : j < n = ih.0 in
      let v : last_by p (n + 1) s ≡ last_by p (j + 1) s = last-no p s n h (missed (item_at s n) f) ∙ ih.2 in
      (omega arith, ih.1, rw add-one at v))

-- ---- the chains

pub code-none : (o : Option ℕ) → code o ≡ 0 → o ≡ None
code-none None e = refl
code-none (Some i) e = absurd (omega arith)

pub code-some : (o : Option ℕ) (p : ℕ) → 0 < p → p ≡ code o → o ≡ Some (p - 1)
code-some None p h e = absurd (omega arith)
code-some (Some i) p h e = let z : i ≡ p - 1 = omega arith in rw z

-- no item is in the chains yet
pub chained-start : (s : Schema) (ix : List ℕ) → length s.items ≤ 1024 → ((k : ℕ) → get_or ix k 0 ≡ 0) → Chained s 0 ix
unfolding last_hashed positions_from last
chained-start s ix few z =
    record {
      few = few;
      head = λ b h. z (per_item * length s.items + b);
      chain = λ j h b t. absurd (omega arith);
    }

is-hashed : (s : Schema) (it : Item) → declares it.kind ≡ true → hashed s (chain_of s it.name) it ≡ true
unfolding hashed
is-hashed s it d = rw (d, eq-eqb (chain_of s it.name) (chain_of s it.name) refl)

pub hashed-as : (s : Schema) (it : Item) (b : ℕ) → hashed s b it ≡ true → (declares it.kind ≡ true) × (chain_of s it.name ≡ b)
unfolding hashed
hashed-as s it b t = let e = both_true (declares it.kind) (eqb (chain_of s it.name) b) t in (e.0, eqb-true (chain_of s it.name) b e.1)

module _ (s : Schema) (ix : List ℕ) (n : ℕ) (c : Chained s n ix) (h : n < length s.items) where
  unhashed : (b : ℕ) → (declares (item_at s n).kind ≡ true → chain_of s (item_at s n).name ≡ b → ⊥) → hashed s b (item_at s n) ≡ false
  unhashed b f = by-test (hashed s b (item_at s n)) (λ t. let e = hashed-as s (item_at s n) b t in absurd (f e.0 e.1)) (λ g. g)

  head-kept : (b : ℕ) → b ≤ mask_of (length s.items) → hashed s b (item_at s n) ≡ false → get_or ix (per_item * length s.items + b) 0 ≡ code (last_hashed b (n + 1) s)
  unfolding last_hashed
  head-kept b l f = c.head b l ∙ ap code (sym (last-no (hashed s b) s n h f))

  head-new : declares (item_at s n).kind ≡ true → last_hashed (chain_of s (item_at s n).name) (n + 1) s ≡ Some n
  unfolding last_hashed
  head-new d = last-yes (hashed s (chain_of s (item_at s n).name)) s n h (is-hashed s (item_at s n) d)

  module _ (big : per_item * length s.items + mask_of (length s.items) < length ix) (d : declares (item_at s n).kind ≡ true) (low : chain_of s (item_at s n).name ≤ mask_of (length s.items)) where
    chained-head : (b : ℕ) → b ≤ mask_of (length s.items) → get_or (fronted ix (per_item * length s.items + chain_of s (item_at s n).name) (per_item * n + 1) n) (per_item * length s.items + b) 0 ≡ code (last_hashed b (n + 1) s)
    chained-head b l =
        by_equal b (chain_of s (item_at s n).name)
        (λ e. rw e (fronted-head ix (per_item * length s.items + chain_of s (item_at s n).name) (per_item * n + 1) n (omega arith) ∙ ap code (sym (head-new d))))
        (λ f. fronted-other ix (per_item * length s.items + chain_of s (item_at s n).name) (per_item * n + 1) n (per_item * length s.items + b) (λ e. f (omega arith)) (λ e. omega arith) ∙ head-kept b l (unhashed b (λ _ e. f (sym e))))

    chained-this : (b : ℕ) → T (hashed s b (item_at s n)) → get_or (fronted ix (per_item * length s.items + chain_of s (item_at s n).name) (per_item * n + 1) n) (per_item * n + 1) 0 ≡ code (last_hashed b n s)
    chained-this b t =
        let e = (hashed-as s (item_at s n) b (is_true (hashed s b (item_at s n)) t)).1 in
        fronted-at ix (per_item * length s.items + chain_of s (item_at s n).name) (per_item * n + 1) n (omega arith) (λ q. omega arith) ∙ c.head (chain_of s (item_at s n).name) low ∙ ap (λ x. code (last_hashed x n s)) e

    pub chained-on : Chained s (n + 1) (fronted ix (per_item * length s.items + chain_of s (item_at s n).name) (per_item * n + 1) n)
    chained-on =
        record {
          few = c.few;
          head = chained-head;
          chain = λ j l b t. by_less j n
              (λ m. fronted-other ix (per_item * length s.items + chain_of s (item_at s n).name) (per_item * n + 1) n (per_item * j + 1) (λ e. omega arith) (λ e. omega arith) ∙ c.chain j m b t)
              (λ m. let e : j ≡ n = omega arith in rw e (chained-this b (rw e at t)));
        }

  pub chained-off : declares (item_at s n).kind ≡ false → Chained s (n + 1) ix
  chained-off f =
      record {
        few = c.few;
        head = λ b l. head-kept b l (unhashed b (λ d _. let z : ◌≡◌ {A = ℕ} 0 1 = cc in omega arith));
        chain = λ j l b t. by_less j n
            (λ m. c.chain j m b t)
            (λ m. let e : j ≡ n = omega arith in let d = (hashed-as s (item_at s n) b (is_true (hashed s b (item_at s n)) (rw e at t))).0 in absurd (let z : ◌≡◌ {A = ℕ} 0 1 = cc in omega arith));
      }

-- the chain number of an item that declares nothing is free
pub chained-aside : (s : Schema) (n : ℕ) (ix : List ℕ) (i d : ℕ) → i < length s.items → declares (item_at s i).kind ≡ false → Chained s n ix → Chained s n (set ix (per_item * i + 1) d)
chained-aside s n ix i d h f c =
    record {
      few = c.few;
      head = λ b l. get_or-set_other ix (per_item * i + 1) (per_item * length s.items + b) d 0 (λ e. omega arith) ∙ c.head b l;
      chain = λ j l b t. by_equal j i
          (λ e. absurd (let q = (hashed-as s (item_at s j) b (is_true (hashed s b (item_at s j)) t)).0 in let g = rw (sym e) at f in let z : ◌≡◌ {A = ℕ} 0 1 = cc in omega arith))
          (λ e. get_or-set_other ix (per_item * i + 1) (per_item * j + 1) d 0 (λ q. e (omega arith)) ∙ c.chain j l b t);
    }

-- the links are not part of the chains
pub chained-frame : (s : Schema) (n : ℕ) (ix ix' : List ℕ) → ((b : ℕ) → get_or ix' (per_item * length s.items + b) 0 ≡ get_or ix (per_item * length s.items + b) 0) → ((j : ℕ) → get_or ix' (per_item * j + 1) 0 ≡ get_or ix (per_item * j + 1) 0) → Chained s n ix → Chained s n ix'
chained-frame s n ix ix' f g c = record { few = c.few; head = λ b l. f b ∙ c.head b l; chain = λ j l b t. g j ∙ c.chain j l b t }
