-- Invariants of loops over items: texts, numbered texts, a count, a test, the first that passes.
use Rattle.std.proofs.Common.{◌≡◌, refl, sym, ap, ◌∙◌, Bool, true, false, List, [], ◌∷◌, ℕ, suc, ◌+◌, ◌≤◌, arith, eqb, length, eqb-true, Some, None}
use Rattle.texts.specs.Choice.{pick, ◌or◌}
use Rattle.texts.specs.Lists.{each, numbered, any}
use Rattle.texts.proofs.Choosing.{both_true}
use Rattle.printing.specs.Written.{written, Wrote}
use Rattle.printing.specs.declared.Output.{Output}
use Rattle.model.specs.Schema.{Item, Schema, positions_from, all_of, under, a_member, a_ref}
use Rattle.model.specs.Schema.{is_under}
use Rattle.xmltoproto.specs.Arrays.{first_from}
use Rattle.xmltoproto.specs.internal.Parts.{Members}
use Rattle.printing.proofs.Writing.{written-append, written-nothing, length-written}

-- ---- f of each position of l, of which `left` are still to come: once they are written, all are

pub record Walking (f : ℕ → List ℕ) (l left : List ℕ) (o o' : Output) : Type 0 where
  pub rest : written o' (each f left) ≡ written o (each f l)

pub walking-start : {f : ℕ → List ℕ} {l left : List ℕ} {o : Output} → left ≡ l → Walking f l left o o
walking-start e = record { rest = rw e }

module _ {f : ℕ → List ℕ} {l left : List ℕ} {o o' : Output} (inv : Walking f l left o o') where
  pub walking_on : {i : ℕ} {rest : List ℕ} → left ≡ i ∷ rest → {o'' : Output} → Wrote o' o'' (f i) → Walking f l rest o o''
  unfolding each
  walking_on {i} {rest} e {o''} d =
      record { rest = ap (λ x. written x (each f rest)) d.is ∙ written-append o' (f i) (each f rest) ∙ sym (ap (λ x. written o' (each f x)) e) ∙ inv.rest }

  pub walking-end : left ≡ [] → Wrote o o' (each f l)
  unfolding each
  walking-end e = record { is = sym (written-nothing o') ∙ sym (ap (λ x. written o' (each f x)) e) ∙ inv.rest }

  pub walking-length : length o'.bytes.now ≡ length o.bytes.now
  walking-length = sym (length-written o' (each f left)) ∙ ap (λ x. length x.bytes.now) inv.rest ∙ length-written o (each f l)

pub ruleset walking = (walking_on, walking-end)

-- ---- f of each position of l with its number, from k₀ + 1 on: k are printed, n bounds the numbers

pub record Numbering (f : ℕ → ℕ → List ℕ) (k₀ : ℕ) (l left : List ℕ) (n k : ℕ) (o o' : Output) : Type 0 where
  pub rest : written o' (numbered f (k + 1) left) ≡ written o (numbered f (k₀ + 1) l)
  pub room : k + length left ≤ n

pub at_most : (q : Item → Bool) (k : ℕ) (xs : List Item) → length (positions_from k q xs) ≤ length xs
unfolding positions_from
at_most q k [] = omega arith
at_most q k (x ∷ xs) = go (q x) (at_most q (k + 1) xs)
  where
    go : (b : Bool) → length (positions_from (k + 1) q xs) ≤ length xs → length (pick b (k ∷ positions_from (k + 1) q xs) (positions_from (k + 1) q xs)) ≤ suc (length xs)
    go true h = omega arith
    go false h = omega arith

-- members and refs together are no more than the items
disjoint : (c k : ℕ) (xs : List Item) → length (positions_from k (is_under a_member c) xs) + length (positions_from k (is_under a_ref c) xs) ≤ length xs
unfolding positions_from
disjoint c k [] = omega arith
disjoint c k (x ∷ xs) =
    go (positions_from (k + 1) (is_under a_member c) xs) (positions_from (k + 1) (is_under a_ref c) xs) (is_under a_member c x) (is_under a_ref c x) (disjoint c (k + 1) xs)
    (λ t u. let e = eqb-true x.kind a_member (both_true _ _ t).0 in let f = eqb-true x.kind a_ref (both_true _ _ u).0 in omega arith)
  where
    go : (M R : List ℕ) (a b : Bool) → length M + length R ≤ length xs → (a ≡ true → b ≡ true → ⊥) → length (pick a (k ∷ M) M) + length (pick b (k ∷ R) R) ≤ suc (length xs)
    go M R true true h z = absurd (z refl refl)
    go M R true false h z = omega arith
    go M R false true h z = omega arith
    go M R false false h z = omega arith

pub under-most : (kind owner : ℕ) (s : Schema) → length (under kind owner s) ≤ length s.items
unfolding under
under-most kind owner s = at_most (is_under kind owner) 0 s.items

pub of-most : (kind : ℕ) (s : Schema) → length (all_of kind s) ≤ length s.items
unfolding all_of
of-most kind s = at_most (λ it. eqb it.kind kind) 0 s.items

pub members-most : {s : Schema} {c k : ℕ} → Members s c k → k + length (under a_ref c s) ≤ length s.items
unfolding under
members-most {s} {c} h = omega (arith, h.are, disjoint c 0 s.items)

module _ {f : ℕ → ℕ → List ℕ} {k₀ : ℕ} {l left : List ℕ} {n : ℕ} {o : Output} where
  pub numbering-start : left ≡ l → k₀ + length l ≤ n → Numbering f k₀ l left n k₀ o o
  numbering-start e h = record { rest = rw e; room = rw e h }

  module _ {k : ℕ} {o' : Output} (inv : Numbering f k₀ l left n k o o') where
    module _ {i : ℕ} {rest : List ℕ} (e : left ≡ i ∷ rest) where
      pub numbering-room : k + 1 ≤ n
      numbering-room = let r = rw e at inv.room in omega arith

      pub numbering-on : {o'' : Output} → Wrote o' o'' (f (k + 1) i) → Numbering f k₀ l rest n (k + 1) o o''
      unfolding numbered
      numbering-on d =
          record {
            rest =
                ap (λ x. written x (numbered f (k + 1 + 1) rest)) d.is ∙ written-append o' (f (k + 1) i) (numbered f (k + 1 + 1) rest)
                ∙ sym (ap (λ x. written o' (numbered f (k + 1) x)) e) ∙ inv.rest;
            room = let r = rw e at inv.room in omega arith;
          }

    pub numbering-end : left ≡ [] → Wrote o o' (numbered f (k₀ + 1) l)
    unfolding numbered
    numbering-end e = record { is = sym (written-nothing o') ∙ sym (ap (λ x. written o' (numbered f (k + 1) x)) e) ∙ inv.rest }

-- ---- how many: k are counted

pub record Counting (l left : List ℕ) (k : ℕ) : Type 0 where
  pub total : k + length left ≡ length l

pub counting-start : {l left : List ℕ} → left ≡ l → Counting l left 0
counting-start e = record { total = rw e (omega arith) }

module _ {l left : List ℕ} {k : ℕ} (inv : Counting l left k) where
  module _ {i : ℕ} {rest : List ℕ} (e : left ≡ i ∷ rest) where
    pub counting-room : k + 1 ≤ length l
    counting-room = let r = rw e at inv.total in omega arith

    pub counting-on : Counting l rest (k + 1)
    counting-on = record { total = let r = rw e at inv.total in omega arith }

  pub counting-end : left ≡ [] → k ≡ length l
  counting-end e = let r = rw e at inv.total in omega (arith, r)

-- ---- whether some position of l passes a test: none so far did

pub record Asking (t : ℕ → Bool) (l left : List ℕ) : Type 0 where
  pub rest : any t left ≡ any t l

pub asking-start : {t : ℕ → Bool} {l left : List ℕ} → left ≡ l → Asking t l left
asking-start e = record { rest = rw e }

module _ {t : ℕ → Bool} {l left : List ℕ} (inv : Asking t l left) where
  module _ {i : ℕ} {more : List ℕ} (e : left ≡ i ∷ more) {b : Bool} (eb : b ≡ t i) where
    split : any t l ≡ (b or any t more)
    unfolding any
    split = sym inv.rest ∙ ap (any t) e ∙ ap (λ (y : Bool). y or any t more) (sym eb)

    pub asking-yes : b ≡ true → true ≡ any t l
    asking-yes v = sym (split ∙ rw v)

    pub asking-on : b ≡ false → Asking t l more
    asking-on v = record { rest = sym (split ∙ rw v) }

  pub asking-end : left ≡ [] → false ≡ any t l
  unfolding any
  asking-end e = sym (ap (any t) e) ∙ inv.rest

pub ruleset asking = (asking-yes, asking-on, asking-end)

-- ---- the place of the first position of l that passes a test: none of the k so far did

pub record Seeking (t : ℕ → Bool) (l left : List ℕ) (k : ℕ) : Type 0 where
  pub rest : first_from k t left ≡ first_from 0 t l
  pub behind : k + length left ≤ length l

pub seeking-start : {t : ℕ → Bool} {l left : List ℕ} → left ≡ l → Seeking t l left 0
seeking-start e = record { rest = rw e; behind = rw e (omega arith) }

module _ {t : ℕ → Bool} {l left : List ℕ} {k : ℕ} (inv : Seeking t l left k) where
  module _ {i : ℕ} {more : List ℕ} (e : left ≡ i ∷ more) where
    pub seeking-room : k + 1 ≤ length l
    seeking-room = let r = rw e at inv.behind in omega arith

    module _ {b : Bool} (eb : b ≡ t i) where
      picked : first_from 0 t l ≡ pick b (Some k) (first_from (k + 1) t more)
      unfolding first_from
      picked = sym inv.rest ∙ ap (first_from k t) e ∙ ap (λ (y : Bool). pick y (Some k) (first_from (k + 1) t more)) (sym eb)

      pub seeking-yes : b ≡ true → Some k ≡ first_from 0 t l
      seeking-yes v = rw (picked, v)

      pub seeking-on : b ≡ false → Seeking t l more (k + 1)
      seeking-on v = record { rest = sym (picked ∙ rw v); behind = let r = rw e at inv.behind in omega arith }

  pub seeking-end : left ≡ [] → None ≡ first_from 0 t l
  unfolding first_from
  seeking-end e = sym (ap (first_from k t) e) ∙ inv.rest

pub ruleset seeking = (seeking-yes, seeking-on, seeking-end)
