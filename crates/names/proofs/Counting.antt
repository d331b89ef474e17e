-- Laws of counting what a name has without its `_`.
use Rattle.std.proofs.Common.{◌≡◌, refl, ap, ◌∙◌, List, ℕ, ◌+◌, ◌≤◌, arith, length, length-append, get_or, eq-eqb, ne_eqb}
use Rattle.printing.specs.Repeated.{up_to}
use Rattle.printing.proofs.Writing.{up_to-more}
use Rattle.names.specs.Conversions.{joined_at, joined}

-- n of the first i bytes are no `_`, however they are shown
pub record Counts (s : List ℕ) (n i : ℕ) : Type 0 where
  pub is : (shown : List ℕ → ℕ → ℕ) → n ≡ length (up_to (joined_at shown s) i)
  pub most : n ≤ i

pub counts-start : {s : List ℕ} → Counts s 0 0
unfolding up_to
counts-start = record { is = λ shown. refl; most = omega arith }

module _ {s : List ℕ} {n i : ℕ} (inv : Counts s n i) where
  pub counts-yes : (get_or s i 0 ≡ 95 → ⊥) → {n' : ℕ} → n' ≡ n + 1 → Counts s n' (i + 1)
  unfolding joined_at
  counts-yes f e =
      record {
        is = λ shown. rw (e, up_to-more, length-append, ne_eqb (get_or s i 0) 95 f) (ap (λ k. k + 1) (inv.is shown));
        most = omega (arith, inv.most);
      }

  pub counts-no : get_or s i 0 ≡ 95 → {n' : ℕ} → n' ≡ n → Counts s n' (i + 1)
  unfolding joined_at
  counts-no f e =
      record {
        is = λ shown. rw (e, up_to-more, length-append, eq-eqb (get_or s i 0) 95 f) (inv.is shown ∙ omega arith);
        most = omega (arith, inv.most);
      }

  pub counts-all : i ≤ length s → length s ≤ i → (shown : List ℕ → ℕ → ℕ) → n ≡ length (joined shown s)
  unfolding joined
  counts-all h l shown = let e : length s ≡ i = omega arith in rw e (inv.is shown)
