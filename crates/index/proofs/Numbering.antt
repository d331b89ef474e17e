-- What a name is declared as among the first items, and among one more.
use Rattle.std.proofs.Common.{◌≡◌, refl, ◌∙◌, Bool, true, false, Option, Some, None, List, ℕ, ◌+◌, ◌<◌, arith, eqb, length, eqb-true, ne_eqb}
use lib.Seq.{take-length}
use borrow.Author.Tests.{eqb-false}
use Rattle.texts.specs.Choice.{pick}
use Rattle.texts.specs.Text.{same}
use Rattle.texts.proofs.Choosing.{by-test}
use Rattle.texts.proofs.Comparing.{same-equal, equal-same}
use Rattle.model.specs.Schema.{Item, Schema, item_at, positions_from, last, last_named, a_type, a_composite, an_enum}
use Rattle.model.proofs.Searching.{last-yes, last-no}
use Rattle.model.specs.Schema.{is_named}
use Rattle.index.specs.Declarations.{declares, declared_by, declaration_of, declaration_code}
use Rattle.index.specs.internal.Sorted.{last_by, code_in, worth}

-- case split: two numbers are equal, or not
pub by_equal {ℓ} : {X : Type ℓ} (a b : ℕ) → (a ≡ b → X) → ((a ≡ b → ⊥) → X) → X
by_equal a b f g = by-test (eqb a b) (λ t. f (eqb-true a b t)) (λ t. g (eqb-false a b t))

-- case split: the kind of an item that declares a name
pub by_kind {ℓ} : {X : Type ℓ} (k : ℕ) → declares k ≡ true → (k ≡ a_type → X) → (k ≡ a_composite → X) → (k ≡ an_enum → X) → X
unfolding declares
by_kind k d f g h =
    by_equal k a_type f
    (λ n. by_equal k a_composite g
    (λ m. by_equal k an_enum h
    (λ l. absurd (let e : false ≡ true = rw (ne_eqb k a_type n, ne_eqb k a_composite m, ne_eqb k an_enum l) at d in let z : ◌≡◌ {A = ℕ} 0 1 = cc in omega arith))))

module _ (kind : ℕ) where
  pub declares-type : kind ≡ 1 → true ≡ declares kind
  unfolding declares
  declares-type e = rw e

  pub declares-composite : kind ≡ 4 → true ≡ declares kind
  unfolding declares
  declares-composite e = rw e

  pub declares-enum : (kind ≡ 1 → ⊥) → (kind ≡ 4 → ⊥) → eqb kind 5 ≡ declares kind
  unfolding declares
  declares-enum a b = rw (ne_eqb kind 1 a, ne_eqb kind 4 b)

-- ---- by the last enum, composite and type

numbered-type : (j : ℕ) (e c t : Option ℕ) → (declaration_code (declared_by e c t) ≡ 1 → ⊥) → declaration_code (declared_by e c (Some j)) ≡ j + 2
numbered-type j (Some i) c t n = absurd (n refl)
numbered-type j None (Some i) t n = absurd (n refl)
numbered-type j None None t n = refl

numbered-kept : (j : ℕ) (e c t : Option ℕ) → declaration_code (declared_by e c t) ≡ 1 → declaration_code (declared_by e c (Some j)) ≡ 1
numbered-kept j (Some i) c t q = refl
numbered-kept j None (Some i) t q = refl
numbered-kept j None None (Some i) q = absurd (omega arith)
numbered-kept j None None None q = absurd (omega arith)

numbered-composite : (j : ℕ) (e t : Option ℕ) → declaration_code (declared_by e (Some j) t) ≡ 1
numbered-composite j (Some i) t = refl
numbered-composite j None t = refl

-- ---- among the first n items, and among n + 1

pub last_step : (p : Item → Bool) (s : Schema) (n : ℕ) → n < length s.items → last_by p (n + 1) s ≡ pick (p (item_at s n)) (Some n) (last_by p n s)
last_step p s n h = by-test (p (item_at s n)) (λ t. rw t (last-yes p s n h t)) (λ f. rw f (last-no p s n h f))

pub number-none : (s : Schema) (name : List ℕ) → code_in s 0 name ≡ 0
unfolding code_in positions_from last
number-none s name = refl

pub number-all : (s : Schema) (name : List ℕ) → code_in s (length s.items) name ≡ declaration_code (declaration_of s name)
unfolding code_in declaration_of last_named
number-all s name = rw take-length

module _ (s : Schema) (k : ℕ) (h : k < length s.items) (name : List ℕ) where
  number_step : code_in s (k + 1) name ≡ declaration_code (declared_by (pick (is_named an_enum name (item_at s k)) (Some k) (last_by (is_named an_enum name) k s)) (pick (is_named a_composite name (item_at s k)) (Some k) (last_by (is_named a_composite name) k s)) (pick (is_named a_type name (item_at s k)) (Some k) (last_by (is_named a_type name) k s)))
  unfolding code_in
  number_step = rw (last_step (is_named an_enum name) s k h, last_step (is_named a_composite name) s k h, last_step (is_named a_type name) s k h)

  number-off : ((kind : ℕ) → declares kind ≡ true → is_named kind name (item_at s k) ≡ false) → code_in s (k + 1) name ≡ code_in s k name
  unfolding code_in declares
  number-off f = number_step ∙ rw (f an_enum refl, f a_composite refl, f a_type refl)

  -- an item that declares nothing
  pub number-aside : declares (item_at s k).kind ≡ false → code_in s (k + 1) name ≡ code_in s k name
  number-aside f = number-off (λ kind d. rw (ne_eqb (item_at s k).kind kind (λ q. let e : declares (item_at s k).kind ≡ true = rw q d in let z : ◌≡◌ {A = ℕ} 0 1 = cc in omega arith)))

  -- an item of another name
  pub number-other : ((item_at s k).name ≡ name → ⊥) → code_in s (k + 1) name ≡ code_in s k name
  number-other n =
      let f : same (item_at s k).name name ≡ false = by-test (same (item_at s k).name name) (λ t. absurd (n (same-equal (item_at s k).name name t))) (λ g. g) in
      number-off (λ kind d. by-test (eqb (item_at s k).kind kind) (λ t. rw (t, f)) (λ g. rw g))

  module _ (d : declares (item_at s k).kind ≡ true) (e : (item_at s k).name ≡ name) where
    -- it decides, unless an enum or composite did
    pub number-fresh : (code_in s k name ≡ 1 → ⊥) → code_in s (k + 1) name ≡ worth s k
    unfolding code_in
    number-fresh n =
        number_step
        ∙ by_kind (item_at s k).kind d
        (λ q. rw (q, equal-same e) (numbered-type k (last_by (is_named an_enum name) k s) (last_by (is_named a_composite name) k s) (last_by (is_named a_type name) k s) n))
        (λ q. rw (q, equal-same e) (numbered-composite k (last_by (is_named an_enum name) k s) (last_by (is_named a_type name) k s)))
        (λ q. rw (q, equal-same e))

    pub number-kept : code_in s k name ≡ 1 → code_in s (k + 1) name ≡ 1
    unfolding code_in
    number-kept o =
        number_step
        ∙ by_kind (item_at s k).kind d
        (λ q. rw (q, equal-same e) (numbered-kept k (last_by (is_named an_enum name) k s) (last_by (is_named a_composite name) k s) (last_by (is_named a_type name) k s) o))
        (λ q. rw (q, equal-same e) (numbered-composite k (last_by (is_named an_enum name) k s) (last_by (is_named a_type name) k s)))
        (λ q. rw (q, equal-same e))
