-- Laws of schemas in which no item has the form of an array: nothing is refused.
use Rattle.std.proofs.Common.{◌≡◌, refl, sym, ◌∙◌, Bool, true, false, Option, Some, None, List, [], ◌∷◌, ℕ, ◌+◌, ◌≤◌, ◌<◌, arith, eqb, length, eqb-true, Ok}
use lib.ListN.{get_or-eq_default}
use borrow.Author.Tests.{eqb-false}
use Rattle.texts.specs.Lists.{any, among}
use Rattle.texts.proofs.Choosing.{by-test}
use Rattle.model.proofs.Records.{by_less}
use Rattle.model.specs.Schema.{Schema, item_at, no_item, all_of, under, last_named, a_type, a_member, a_composite, a_message, a_group, a_field}
use Rattle.xmltoproto.specs.Types.{form_of, built_in, built_ins, is_array, is_declared, type_or, meaning}
use Rattle.xmltoproto.specs.Composites.{is_printed}
use Rattle.xmltoproto.specs.Arrays.{first_from, refused_composite, is_array_type, holds_array, refused_message, array_refusal}
use Rattle.xmltoproto.specs.internal.Refusing.{refusing, Arrayless}

-- ---- a test that holds of nothing

any_none : (p : ℕ → Bool) (l : List ℕ) → ((i : ℕ) → p i ≡ false) → any p l ≡ false
unfolding any
any_none p [] h = refl
any_none p (i ∷ l) h = rw (h i) (any_none p l h)

first-none : (k : ℕ) (p : ℕ → Bool) (l : List ℕ) → ((i : ℕ) → p i ≡ false) → first_from k p l ≡ None
unfolding first_from
first-none k p [] h = refl
first-none k p (i ∷ l) h = rw (h i) (first-none (k + 1) p l h)

-- ---- the loop of `has_arrays` stands at k

pub record Lacking (s : Schema) (k : ℕ) : Type 0 where
  pub none : (i : ℕ) → i < k → is_array (form_of (item_at s i)) ≡ false

pub lacking-start : {s : Schema} → Lacking s 0
lacking-start = record { none = λ i h. absurd (omega arith) }

pub lacking-on : {s : Schema} {k : ℕ} → Lacking s k → {b : Bool} → b ≡ is_array (form_of (item_at s k)) → b ≡ false → Lacking s (k + 1)
lacking-on {s} {k} inv e f =
    record {
      none = λ i h.
          by-test (eqb i k)
          (λ y. rw (eqb-true i k y) (sym e ∙ f))
          (λ n. let d : i ≡ k → ⊥ = eqb-false i k n in inv.none i (omega arith));
    }

-- at the end of the loop
pub lacking-all : {s : Schema} {k n : ℕ} → Lacking s k → n ≡ length s.items → n ≤ k → Arrayless s
unfolding form_of is_array
lacking-all {s} {k} inv e h =
    record {
      none = λ i.
          by_less i k (λ l. inv.none i l) (λ l. let o : length s.items ≤ i = omega arith in rw (get_or-eq_default s.items no_item o));
    }

-- `true` promises nothing
pub lacking-not : {s : Schema} → true ≡ false → Arrayless s
lacking-not e = absurd (let z : ◌≡◌ {A = ℕ} 0 1 = cc in omega arith)

-- ---- nothing is refused

module _ (s : Schema) (a : Arrayless s) where
  meaning-none : (name : List ℕ) → is_array_type (meaning s name) ≡ false
  unfolding meaning built_in is_array
  meaning-none name = by-test (is_declared s name) (λ t. rw t) (λ f. rw f (go (last_named a_type name s)))
    where
      go : (o : Option ℕ) → is_array_type (type_or s name o) ≡ false
      go (Some i) = a.none i
      go None = by-test (among name built_ins) (λ t. rw t) (λ f. rw f)

  holds-none : (owner : ℕ) → holds_array s owner ≡ false
  unfolding holds_array
  holds-none owner = any_none (λ f. is_array_type (meaning s (item_at s f).second)) (under a_field owner s) (λ f. meaning-none (item_at s f).second)

  message-none : (i : ℕ) → refused_message s i ≡ false
  unfolding refused_message
  message-none i = rw (holds-none i) (any_none (holds_array s) (under a_group i s) holds-none)

  composite-none : (c : ℕ) → refused_composite s c ≡ false
  unfolding refused_composite
  composite-none c = rw (any_none (λ m. is_array (form_of (item_at s m))) (under a_member c s) a.none) (by-test (is_printed (item_at s c)) (λ t. rw t) (λ f. rw f))

  none-refused : Ok tt ≡ refusing (array_refusal s)
  unfolding array_refusal
  none-refused = rw (first-none 0 (refused_composite s) (all_of a_composite s) composite-none, first-none 0 (refused_message s) (all_of a_message s) message-none)

pub none_told : (s : Schema) {b : Bool} → (b ≡ false → Arrayless s) → b ≡ false → Ok tt ≡ refusing (array_refusal s)
none_told s h f = none-refused s (h f)
