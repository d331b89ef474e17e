-- Laws of searches by the index, each from the facts at hand where the code needs it.
use Rattle.std.proofs.Common.{◌≡◌, refl, sym, ◌∙◌, Option, Some, None, List, [], ◌∷◌, ℕ, ◌+◌, ◌*◌, ◌-◌, ◌<◌, arith, length, get_or}
use lib.ListN.{get_or-eq_default}
use Rattle.model.specs.Schema.{Schema, item_at, no_item, next_under}
use Rattle.model.specs.Search.{ahead}
use Rattle.model.proofs.Records.{by_less}
use Rattle.model.proofs.Searching.{ahead-none, ahead-some}
use Rattle.model.specs.Schema.{is_under}
use Rattle.index.specs.Blank.{kinds, per_item}
use Rattle.index.specs.Declarations.{declaration_of, declaration_code}
use Rattle.index.specs.declared.declaration.Declaration.{Declaration}
use Rattle.index.specs.declared.declaration.Declaration.TheVariants.{Named, Typed}
use Rattle.index.specs.internal.Index.{code, Indexed}

-- past the last item there is no field
inside : (s : Schema) (i : ℕ) → (item_at s i).kind ≡ 9 → i < length s.items
inside s i k = by_less i (length s.items) (λ l. l) (λ l. absurd (let z : 0 ≡ 9 = rw (get_or-eq_default s.items no_item l) at k in omega arith))

-- ---- children

module _ (s : Schema) (ix : List ℕ) (x : Indexed s ix) (kind owner from : ℕ) where
  pub child-first : {r : Option ℕ} → kind < kinds → owner < length s.items → from ≡ 0 → ((o : Option ℕ) → get_or ix (per_item * owner + 2 + kind) 0 ≡ code o → r ≡ o) → r ≡ next_under kind owner from s
  child-first hk ho z f = f (next_under kind owner from s) (rw z (x.links.first kind owner hk ho))

  child-on : 0 < from → from - 1 < length s.items → (item_at s (from - 1)).kind ≡ kind → (item_at s (from - 1)).owner ≡ owner → kind < kinds → owner < length s.items → get_or ix (per_item * (from - 1)) 0 ≡ code (next_under kind owner from s)
  child-on h l ek eo hk ho =
      let z : from - 1 + 1 ≡ from = omega arith in
      let e = x.links.next (from - 1) (omega arith) l (omega arith) (omega arith) in
      rw (ek, eo, z) at e

  pub child-next : {r : Option ℕ} → kind < kinds → owner < length s.items → 0 < from → {n : ℕ} → n ≡ length s.items → from - 1 < n → {k : ℕ} → k ≡ (item_at s (from - 1)).kind → k ≡ kind → {o : ℕ} → o ≡ (item_at s (from - 1)).owner → o ≡ owner
      → ((p : Option ℕ) → get_or ix (per_item * (from - 1)) 0 ≡ code p → r ≡ p) → r ≡ next_under kind owner from s
  child-next hk ho h en l fk ek fo eo g = g (next_under kind owner from s) (child-on h (omega arith) (sym fk ∙ ek) (sym fo ∙ eo) hk ho)

-- what a search for the next one answers
pub under-none : (kind owner from : ℕ) (s : Schema) → next_under kind owner from s ≡ None → ahead (is_under kind owner) from s ≡ []
unfolding next_under ahead
under-none kind owner from s e = ahead-none e

pub under-some : (kind owner from : ℕ) (s : Schema) {i : ℕ} → next_under kind owner from s ≡ Some i → ahead (is_under kind owner) from s ≡ i ∷ ahead (is_under kind owner) (i + 1) s
unfolding next_under ahead
under-some kind owner from s {i} e = ahead-some (is_under kind owner) s from i e

-- ---- type names

pub declaration-none : {n : ℕ} → n ≡ 0 → (d : Option Declaration) → n ≡ declaration_code d → None ≡ d
declaration-none h None e = refl
declaration-none h (Some Named) e = absurd (omega arith)
declaration-none h (Some (Typed i)) e = absurd (omega arith)

pub declaration-named : {n : ℕ} → n ≡ 1 → (d : Option Declaration) → n ≡ declaration_code d → Some Named ≡ d
declaration-named h None e = absurd (omega arith)
declaration-named h (Some Named) e = refl
declaration-named h (Some (Typed i)) e = absurd (omega arith)

pub declaration-typed : {n : ℕ} → (n ≡ 0 → ⊥) → (n ≡ 1 → ⊥) → (d : Option Declaration) → n ≡ declaration_code d → Some (Typed (n - 2)) ≡ d
declaration-typed a b None e = absurd (a e)
declaration-typed a b (Some Named) e = absurd (b e)
declaration-typed {n} a b (Some (Typed i)) e = let z : n - 2 ≡ i = omega arith in rw z

pub field-within : (s : Schema) (i : ℕ) (ix : List ℕ) → Indexed s ix → (item_at s i).kind ≡ 9 → per_item * i + 1 < length ix
field-within s i ix x k = omega (arith, inside s i k, x.long)

pub field-number : (s : Schema) (i : ℕ) (ix : List ℕ) → Indexed s ix → (item_at s i).kind ≡ 9 → {w : ℕ} → w ≡ get_or ix (per_item * i + 1) 0 → w ≡ declaration_code (declaration_of s (item_at s i).second)
field-number s i ix x k ew = ew ∙ x.types.is i (omega arith) (inside s i k) k
