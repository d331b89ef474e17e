-- What the code counts covers what each item adds to the source.
use Rattle.std.proofs.Common.{◌≡◌, refl, sym, ap, ◌∙◌, List, ℕ, zero, suc, ◌+◌, ◌*◌, ◌≤◌, ◌<◌, ◌^◌, arith, add-one, length, rules, ne_eqb, Option, Some, None}
use Rattle.printing.specs.Decimal.{decimal}
use Rattle.printing.proofs.Decimals.{decimal-one}
use Rattle.model.specs.Schema.{Schema}
use Rattle.xmltoproto.specs.Source.{source}
use Rattle.xmltoproto.specs.internal.Bound.{note_most, share, Covers}
use Rattle.xmltoproto.proofs.Owning.{sum_to}
use Rattle.xmltoproto.proofs.Bounding.{source-most}

-- ---- a line

-- a built-in has no length, whose number has one digit
pub one-digit : length (decimal 0) ≡ 1
one-digit = ap length (decimal-one 0 (omega arith))

pub note-more : (a b : ℕ) → a ≤ b → note_most a ≤ note_most b
unfolding note_most
note-more zero b h = omega arith
note-more (suc a) zero h = absurd (omega arith)
note-more (suc a) (suc b) h = omega arith

-- ---- the sum: the shares of the first i items are counted

pub record Summing (s : Schema) (n most i : ℕ) : Type 0 where
  pub rest : length (source s) + sum_to (share s) i ≤ most + sum_to (share s) n
  pub small : most < 2 ^ 63 + 2 ^ 34 + i * 2 ^ 40
  pub within : i ≤ n
  pub few : n ≤ 1024

-- the header
pub summing_start : (s : Schema) {w : List ℕ} → w ≡ s.package_name → length (decimal s.id) ≤ 10 → length (decimal s.version) ≤ 10 → length w < 2 ^ 63
    → {n : ℕ} → n ≡ length s.items → length s.items ≤ 1024 → Summing s n (117 + length w + 20) 0
unfolding sum_to
summing_start s ew la lb lw e f =
    record {
      rest = rw (e, ew) (omega (arith, source-most s f));
      small = omega arith;
      within = omega arith;
      few = omega arith;
    }

module _ {s : Schema} {n most i : ℕ} (inv : Summing s n most i) where
  pub summing_on : i < n → {r : ℕ} → Covers r (share s i) → Summing s n (most + r) (i + 1)
  unfolding sum_to
  summing_on h c = record { rest = rw (add-one i) (omega (arith, inv.rest, c.least)); small = omega (arith, inv.small, c.small); within = omega arith; few = inv.few }

  pub summing-room : {r : ℕ} → Covers r (share s i) → most + r < 2 ^ 64
  summing-room c = omega (arith, inv.small, inv.within, inv.few, c.small)

  pub summing-end : n ≤ i → length (source s) ≤ most
  summing-end h =
      let z : i ≡ n = omega (arith, inv.within) in
      omega (arith, rw z at inv.rest)

pub ruleset bounds = (one-digit, note-more, summing_on, summing-room, summing-end, rules)
