-- Insertion: the items from there on move up, the last one first.
use Rattle.std.proofs.Common.{◌≡◌, refl, ◌∙◌, List, ℕ, ◌+◌, ◌-◌, ◌≤◌, ◌<◌, arith, length, get_or, set, length-set, get_or-set_same, get_or-set_other}
use Rattle.model.proofs.Records.{by_less}
use Rattle.index.specs.internal.Sorted.{Inserted}

-- those from j on have moved up
pub record Moving (old : List ℕ) (n p : ℕ) (new : List ℕ) (j : ℕ) : Type 0 where
  pub long : length new ≡ length old
  pub down : p ≤ j
  pub within : j ≤ n
  pub low : (a : ℕ) → a < j → get_or new a 0 ≡ get_or old a 0
  pub high : (a : ℕ) → j ≤ a → a < n → get_or new (a + 1) 0 ≡ get_or old a 0

pub moving-start : {old : List ℕ} {n p : ℕ} → p ≤ n → Moving old n p old n
moving-start h = record { long = refl; down = h; within = omega arith; low = λ a l. refl; high = λ a l m. absurd (omega arith) }

pub moving-on : {old : List ℕ} {n p : ℕ} {new : List ℕ} {j : ℕ} → n < length old → Moving old n p new j → p < j → Moving old n p (set new j (get_or new (j - 1) 0)) (j - 1)
moving-on {old} {n} {p} {new} {j} h v l =
    record {
      long = length-set new j (get_or new (j - 1) 0) ∙ v.long;
      down = omega arith;
      within = let w = v.within in omega arith;
      low = λ a k. get_or-set_other new j a (get_or new (j - 1) 0) 0 (λ e. omega arith) ∙ v.low a (omega arith);
      high = λ a k m. by_less a j
          (λ b. let e : a ≡ j - 1 = omega arith in let z : j - 1 + 1 ≡ j = omega arith in rw (e, z) (get_or-set_same new j (get_or new (j - 1) 0) 0 (let w = v.within in let y = v.long in omega arith) ∙ v.low (j - 1) (omega arith)))
          (λ b. get_or-set_other new j (a + 1) (get_or new (j - 1) 0) 0 (λ e. omega arith) ∙ v.high a b m);
    }

pub moving-end : {old : List ℕ} {n p : ℕ} {new : List ℕ} {j : ℕ} → n < length old → Moving old n p new j → j ≤ p → {i : ℕ} {end : List ℕ} → end ≡ set new p i → Inserted old n p i end
moving-end {old} {n} {p} {new} {j} h v l {i} {end} e =
    let z : j ≡ p = let d = v.down in omega arith in
    record {
      long = rw e (length-set new p i ∙ v.long);
      low = λ a k. rw e (get_or-set_other new p a i 0 (λ q. omega arith) ∙ v.low a (omega arith));
      here = rw e (get_or-set_same new p i 0 (let w = v.within in let y = v.long in omega arith));
      high = λ a k m. rw e (get_or-set_other new p (a + 1) i 0 (λ q. omega arith) ∙ v.high a (omega arith) m);
    }
