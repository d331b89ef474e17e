-- Walking a hash chain for what a name is declared as.
use Rattle.std.proofs.Common.{◌≡◌, refl, sym, ap, ◌∙◌, Bool, true, false, Option, Some, None, List, ℕ, ◌+◌, ◌*◌, ◌-◌, ◌≤◌, ◌<◌, arith, eqb, ltb, length, get_or, eqb-true, eq-eqb, ne_eqb, lt-ltb, le-ltb, ltb-false}
use lib.Seq.{take-length}
use Rattle.texts.specs.Choice.{pick, ◌and◌}
use Rattle.texts.specs.Text.{same}
use Rattle.texts.proofs.Choosing.{by-test, both_true}
use Rattle.texts.proofs.Comparing.{same-equal}
use Rattle.model.specs.Schema.{Item, Schema, item_at, last_named, a_type, a_composite, an_enum}
use Rattle.model.specs.Schema.{is_named}
use Rattle.index.specs.Declarations.{declares}
use Rattle.index.specs.internal.Sorted.{last_by}
use Rattle.index.proofs.Numbering.{by_kind, last_step}
use Rattle.index.specs.Blank.{per_item}
use Rattle.index.specs.Declarations.{declared_by, declaration_of, declaration_code}
use Rattle.index.specs.internal.Index.{so_far_by, code, chain_of, HeadOf, hashed, last_hashed, Chained}
use Rattle.index.proofs.Chaining.{none_passes, some-passes, code-none, code-some, hashed-as}

-- ---- what is kept

-- the number of a name, where the walk has `kept` so far, and e, c, t are the last enum, composite
-- and type of the name among the items to come
pub chosen : ℕ → Option ℕ → Option ℕ → Option ℕ → ℕ
chosen kept (Some i) c t = 1
chosen kept None (Some i) t = 1
chosen kept None None t = pick (ltb 0 kept) kept (declaration_code (declared_by None None t))

chosen-first : (e c t : Option ℕ) → chosen 0 e c t ≡ declaration_code (declared_by e c t)
unfolding chosen
chosen-first (Some i) c t = refl
chosen-first None (Some i) t = refl
chosen-first None None (Some i) = refl
chosen-first None None None = refl

chosen_last : (kept : ℕ) → chosen kept None None None ≡ kept
unfolding chosen
chosen_last kept = by-test (ltb 0 kept) (λ t. rw t) (λ f. let l = ltb-false 0 kept f in let z : 0 ≡ kept = omega arith in rw f z)

chosen-one : (e c t : Option ℕ) → chosen 1 e c t ≡ 1
unfolding chosen
chosen-one (Some i) c t = refl
chosen-one None (Some i) t = refl
chosen-one None None t = refl

-- one item of each kind: b where it has the name
module _ (kept j : ℕ) where
  step-type : (b : Bool) (e c t : Option ℕ) → chosen kept e c (pick b (Some j) t) ≡ chosen (pick (ltb 0 kept) kept (pick b (j + 2) 0)) e c t
  unfolding chosen
  step-type b (Some i) c t = refl
  step-type b None (Some i) t = refl
  step-type b None None t = go b (ltb 0 kept) refl
    where
      go : (b w : Bool) → ltb 0 kept ≡ w → pick (ltb 0 kept) kept (declaration_code (declared_by None None (pick b (Some j) t))) ≡ pick (ltb 0 (pick (ltb 0 kept) kept (pick b (j + 2) 0))) (pick (ltb 0 kept) kept (pick b (j + 2) 0)) (declaration_code (declared_by None None t))
      go b true f = rw (f, f)
      go true false f = rw (f, lt-ltb 0 (j + 2) (omega arith))
      go false false f = rw f

  step-composite : (b : Bool) (e c t : Option ℕ) → chosen kept e (pick b (Some j) c) t ≡ chosen (pick b 1 kept) e c t
  unfolding chosen
  step-composite false e c t = refl
  step-composite true (Some i) c t = refl
  step-composite true None c t = sym (chosen-one None c t)

  step-enum : (b : Bool) (e c t : Option ℕ) → chosen kept (pick b (Some j) e) c t ≡ chosen (pick b 1 kept) e c t
  unfolding chosen
  step-enum false e c t = refl
  step-enum true e c t = sym (chosen-one e c t)

  step-any : (k : ℕ) → declares k ≡ true → (b : Bool) (e c t : Option ℕ)
      → chosen kept (pick (eqb k an_enum and b) (Some j) e) (pick (eqb k a_composite and b) (Some j) c) (pick (eqb k a_type and b) (Some j) t) ≡ chosen (pick (eqb k a_type) (pick (ltb 0 kept) kept (pick b (j + 2) 0)) (pick b 1 kept)) e c t
  step-any k d b e c t = by_kind k d (λ q. rw q (step-type b e c t)) (λ q. rw q (step-composite b e c t)) (λ q. rw q (step-enum b e c t))

-- ---- along the chain

-- an item of this name is in its chain
narrow : (s : Schema) (kind : ℕ) (name : List ℕ) → declares kind ≡ true → (it : Item) → is_named kind name it ≡ true → hashed s (chain_of s name) it ≡ true
unfolding hashed
narrow s kind name d it t =
    let e = both_true (eqb it.kind kind) (same it.name name) t in
    let k : it.kind ≡ kind = eqb-true it.kind kind e.0 in
    let n : it.name ≡ name = same-equal it.name name e.1 in
    rw (k, n, d, eq-eqb (chain_of s name) (chain_of s name) refl)

-- p leads to the last of the first n items in the name's chain, and the items after that say `kept`
pub record Seeking (name : List ℕ) (s : Schema) (p kept : ℕ) : Type 0 where
  pub n : ℕ
  pub within : n ≤ length s.items
  pub leads : p ≡ code (last_hashed (chain_of s name) n s)
  pub same : chosen kept (last_by (is_named an_enum name) n s) (last_by (is_named a_composite name) n s) (last_by (is_named a_type name) n s) ≡ declaration_code (declaration_of s name)

pub seeking-start : (name : List ℕ) (s : Schema) (ix : List ℕ) → Chained s (length s.items) ix → {b : ℕ} → HeadOf s name b → {p : ℕ} → p ≡ get_or ix b 0 → Seeking name s p 0
unfolding declaration_of last_named
seeking-start name s ix x {b} eb {p} ep =
    record {
      n = length s.items;
      within = omega arith;
      leads = ep ∙ ap (λ y. get_or ix y 0) eb.is ∙ x.head (chain_of s name) eb.low;
      same = rw (take-length s.items) (chosen-first (last_named an_enum name s) (last_named a_composite name s) (last_named a_type name s));
    }

module _ (name : List ℕ) (s : Schema) {p kept : ℕ} (k : Seeking name s p kept) where
  pub seeking-none : p ≤ 0 → kept ≡ declaration_code (declaration_of s name)
  unfolding last_hashed declares
  seeking-none h = sym (chosen_last kept) ∙ (rw (gone an_enum refl, gone a_composite refl, gone a_type refl) at k.same)
    where
      gone : (kind : ℕ) → declares kind ≡ true → last_by (is_named kind name) k.n s ≡ None
      gone kind d = none_passes (is_named kind name) (hashed s (chain_of s name)) s (narrow s kind name d) k.n k.within (code-none (last_hashed (chain_of s name) k.n s) (let z : p ≡ 0 = omega arith in sym k.leads ∙ z))

  module _ (h : 0 < p) where
    passed : (kind : ℕ) → declares kind ≡ true → (p - 1 < k.n) × (hashed s (chain_of s name) (item_at s (p - 1)) ≡ true) × (last_by (is_named kind name) k.n s ≡ last_by (is_named kind name) (p - 1 + 1) s)
    unfolding last_hashed
    passed kind d = some-passes (is_named kind name) (hashed s (chain_of s name)) s (narrow s kind name d) k.n k.within (p - 1) (code-some (last_hashed (chain_of s name) k.n s) p h k.leads)

    pub seeking-low : p - 1 < length s.items
    unfolding declares
    seeking-low = let l = (passed a_type refl).0 in let w = k.within in omega arith

    pub seeking-few : {n : ℕ} {ix : List ℕ} → Chained s n ix → p - 1 < 1024
    seeking-few x = let l = seeking-low in let f = x.few in omega arith

    turned : (kind : ℕ) → declares kind ≡ true → last_by (is_named kind name) k.n s ≡ pick (is_named kind name (item_at s (p - 1))) (Some (p - 1)) (last_by (is_named kind name) (p - 1) s)
    turned kind d = (passed kind d).2 ∙ last_step (is_named kind name) s (p - 1) seeking-low

    declaring : declares (item_at s (p - 1)).kind ≡ true
    unfolding declares
    declaring = (hashed-as s (item_at s (p - 1)) (chain_of s name) (passed a_type refl).1).0

    module _ {r : ℕ} (er : r ≡ so_far_by (item_at s (p - 1)) (p - 1) name kept) where
      kept_same : chosen r (last_by (is_named an_enum name) (p - 1) s) (last_by (is_named a_composite name) (p - 1) s) (last_by (is_named a_type name) (p - 1) s) ≡ declaration_code (declaration_of s name)
      unfolding declares
      kept_same =
          rw er
          (sym (step-any kept (p - 1) (item_at s (p - 1)).kind declaring (same (item_at s (p - 1)).name name) (last_by (is_named an_enum name) (p - 1) s) (last_by (is_named a_composite name) (p - 1) s) (last_by (is_named a_type name) (p - 1) s))
          ∙ (rw (turned an_enum refl, turned a_composite refl, turned a_type refl) at k.same))

      pub seeking-found : r ≡ 1 → r ≡ declaration_code (declaration_of s name)
      seeking-found e = rw e (sym (chosen-one (last_by (is_named an_enum name) (p - 1) s) (last_by (is_named a_composite name) (p - 1) s) (last_by (is_named a_type name) (p - 1) s)) ∙ (rw e at kept_same))

    module _ (ix : List ℕ) (x : Chained s (length s.items) ix) {q : ℕ} (eq : q ≡ get_or ix (per_item * (p - 1) + 1) 0) where
      next-leads : q ≡ code (last_hashed (chain_of s name) (p - 1) s)
      unfolding declares
      next-leads = eq ∙ x.chain (p - 1) seeking-low (chain_of s name) (rw (passed a_type refl).1 tt)

      pub seeking-on : {r : ℕ} → r ≡ so_far_by (item_at s (p - 1)) (p - 1) name kept → Seeking name s q r
      seeking-on er = record { n = p - 1; within = let l = seeking-low in omega arith; leads = next-leads; same = kept_same er }

-- ---- what is kept, by the tests of an item

module _ (s : Schema) (i : ℕ) {k : ℕ} (f : k ≡ (item_at s i).kind) (name : List ℕ) (kept : ℕ) where
  module _ (ek : k ≡ 1) where
    typed : eqb (item_at s i).kind a_type ≡ true
    typed = eq-eqb (item_at s i).kind a_type (sym f ∙ ek)

    pub kept-so-far : 0 < kept → kept ≡ so_far_by (item_at s i) i name kept
    kept-so-far h = rw (typed, lt-ltb 0 kept h)

    module _ (h : kept ≤ 0) {w : List ℕ} (ew : w ≡ (item_at s i).name) {b : Bool} (eb : b ≡ same w name) where
      pub kept-type : b ≡ true → i + 2 ≡ so_far_by (item_at s i) i name kept
      kept-type t = rw (typed, le-ltb 0 kept h, ← ew, ← eb, t)

      pub kept-no-type : b ≡ false → 0 ≡ so_far_by (item_at s i) i name kept
      kept-no-type t = rw (typed, le-ltb 0 kept h, ← ew, ← eb, t)

  module _ (nk : k ≡ 1 → ⊥) {w : List ℕ} (ew : w ≡ (item_at s i).name) {b : Bool} (eb : b ≡ same w name) where
    other : eqb (item_at s i).kind a_type ≡ false
    other = ne_eqb (item_at s i).kind a_type (λ q. nk (f ∙ q))

    pub kept-named : b ≡ true → 1 ≡ so_far_by (item_at s i) i name kept
    kept-named t = rw (other, ← ew, ← eb, t)

    pub kept-other : b ≡ false → kept ≡ so_far_by (item_at s i) i name kept
    kept-other t = rw (other, ← ew, ← eb, t)
