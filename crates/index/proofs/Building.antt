-- Laws of building the index, each from the facts at hand where the code needs it.
use Rattle.std.proofs.Common.{◌≡◌, refl, sym, ap, ◌∙◌, Bool, true, false, List, ℕ, ◌+◌, ◌*◌, ◌-◌, ◌≤◌, ◌<◌, arith, length, get_or, set, length-set, replicate, get_or-set_same, get_or-set_other}
use lib.ListN.{length-replicate, get_or-replicate, get_or-eq_default}
use Rattle.model.proofs.Records.{by_less}
use Rattle.model.specs.Schema.{Schema, item_at, a_field}
use Rattle.texts.specs.Choice.{pick}
use Rattle.index.specs.Declarations.{declares, declaration_of, declaration_code}
use Rattle.index.specs.Declarations.{declaration_of, declaration_code}
use Rattle.index.specs.Blank.{kinds, per_item, mask_of, Blank}
use Rattle.index.specs.internal.Index.{fronted, chain_of, HeadOf, Chained, Naming, Settling, Indexed}
use Rattle.index.proofs.Fronting.{fronted-length, fronted-other}
use Rattle.index.proofs.Linking.{linked-start, linked_on, linked-off, linked-frame}
use Rattle.index.proofs.Chaining.{chained-start, chained-on, chained-off, chained-aside, chained-frame}
use Rattle.index.proofs.Hashing.{mask-many, mask-few}

-- ---- an array of zeros

zeros : (n k : ℕ) → get_or {A = ℕ} (replicate n 0) k 0 ≡ 0
zeros n k = by_less k n (λ l. get_or-replicate n k 0 0 l) (λ l. let e = length-replicate {A = ℕ} n 0 in let h : length {A = ℕ} (replicate n 0) ≤ k = omega arith in get_or-eq_default (replicate n 0) 0 h)

mask_low : (n : ℕ) → mask_of n ≤ 1023
mask_low n = by_less 128 n (λ h. let e = mask-many h in omega arith) (λ h. let e = mask-few h in omega arith)

module _ (s : Schema) (size : ℕ) where
  pub blank-few : length s.items ≤ 128 → per_item * length s.items + 127 < size → Blank s (replicate size 0)
  blank-few h fits = record { long = let q = mask-few {n = length s.items} h in let z = length-replicate {A = ℕ} size 0 in omega arith; zero = zeros size }

  pub blank : per_item * length s.items + 1023 < size → Blank s (replicate size 0)
  blank fits = record { long = let q = mask_low (length s.items) in let z = length-replicate {A = ℕ} size 0 in omega arith; zero = zeros size }

-- ---- names

pub naming-start : (s : Schema) (ix : List ℕ) → Blank s ix → length s.items ≤ 1024 → Naming s 0 ix
naming-start s ix b few = record { long = b.long; zero = λ k o _ _. b.zero (per_item * o + 2 + k); chained = chained-start s ix few b.zero }

pub naming-end : (s : Schema) (ix : List ℕ) {i n : ℕ} → Naming s i ix → i ≤ n → n ≡ length s.items → n ≤ i → Naming s (length s.items) ix
naming-end s ix {i} {n} c a e b = let q : i ≡ length s.items = omega arith in rw q at c

module _ (s : Schema) (i : ℕ) {k : ℕ} (f : k ≡ (item_at s i).kind) (ix : List ℕ) (c : Naming s i ix) (h : i < length s.items) {b : Bool} (eb : b ≡ declares k) where
  told : declares (item_at s i).kind ≡ b
  told = sym (eb ∙ ap declares f)

  pub name-off : b ≡ false → Naming s (i + 1) ix
  name-off g = record { long = c.long; zero = c.zero; chained = chained-off s ix i c.chained h (told ∙ g) }

  pub name-on : b ≡ true → {w : List ℕ} → w ≡ (item_at s i).name → {p : ℕ} → HeadOf s w p → {ix' : List ℕ} → ix' ≡ fronted ix p (per_item * i + 1) i → Naming s (i + 1) ix'
  name-on t {w} n {p} ep {ix'} q =
      let z : p ≡ per_item * length s.items + chain_of s (item_at s i).name = ep.is ∙ ap (λ x. per_item * length s.items + chain_of s x) n in
      let low = rw n at ep.low in
      let on = chained-on s ix i c.chained h c.long (told ∙ t) low in
      record {
        long = rw (q, fronted-length ix p (per_item * i + 1) i) c.long;
        zero = λ k o hk ho. rw q (fronted-other ix p (per_item * i + 1) i (per_item * o + 2 + k) (λ x. omega arith) (λ x. omega arith) ∙ c.zero k o hk ho);
        chained = rw (q, z) on;
      }

-- ---- links and type names

pub settling-start : (s : Schema) (ix : List ℕ) → Naming s (length s.items) ix → {n : ℕ} → n ≡ length s.items → Settling s n n ix
settling-start s ix c {n} e =
    record {
      long = c.long;
      linked = linked-start s ix c.zero n (omega arith);
      chained = c.chained;
      resolved = record { is = λ j a l k. absurd (omega arith) };
    }

pub settling-here : (s : Schema) (ix : List ℕ) {n : ℕ} → Settling s n n ix → 0 < n → Settling s (n - 1 + 1) (n - 1 + 1) ix
settling-here s ix {n} l h = let e : n - 1 + 1 ≡ n = omega arith in rw e l

-- `resolve_item` stored the type name of an item, or it did not
pub settling-told : {s : Schema} {ix : List ℕ} {l r : ℕ} (q : ℕ) {t : Bool} → Settling s l (pick t r q) ix → t ≡ true → Settling s l r ix
settling-told q c e = rw e at c

pub settling-untold : {s : Schema} {ix : List ℕ} {l q : ℕ} (r : ℕ) {t : Bool} → Settling s l (pick t r q) ix → t ≡ false → Settling s l q ix
settling-untold r c e = rw e at c

pub settling-end : (s : Schema) (ix : List ℕ) {n : ℕ} → Settling s n n ix → n ≤ 0 → Settling s 0 0 ix
settling-end s ix {n} l h = let e : n ≡ 0 = omega arith in rw e at l

pub naming-few : {s : Schema} {i : ℕ} {ix : List ℕ} → Naming s i ix → i < length s.items → i < 1024
naming-few c h = let f = c.chained.few in omega arith

pub settling-few : {s : Schema} {i l r : ℕ} {ix : List ℕ} → Settling s l r ix → i < length s.items → i < 1024
settling-few c h = let f = c.chained.few in omega arith

pub settling-chained : (s : Schema) (ix : List ℕ) {l r : ℕ} → Settling s l r ix → Chained s (length s.items) ix
settling-chained s ix c = c.chained

module _ (s : Schema) (i : ℕ) {kind : ℕ} (fk : kind ≡ (item_at s i).kind) (ix : List ℕ) (l : Settling s (i + 1) i ix) (h : i < length s.items) where
  off : ((item_at s i).kind < kinds → (item_at s i).owner < length s.items → ⊥) → Settling s i i ix
  off n = record { long = l.long; linked = linked-off s ix i l.linked h n; chained = l.chained; resolved = l.resolved }

  pub link-kind : a_field < kind → Settling s i i ix
  link-kind g = off (λ a b. omega arith)

  pub link-owner : {owner : ℕ} → owner ≡ (item_at s i).owner → {c : ℕ} → c ≡ length s.items → c ≤ owner → Settling s i i ix
  link-owner fo ec g = off (λ a b. omega arith)

  pub link_on : {owner : ℕ} → owner ≡ (item_at s i).owner → kind ≤ a_field → {c : ℕ} → c ≡ length s.items → owner < c → {ix' : List ℕ} → ix' ≡ fronted ix (per_item * owner + 2 + kind) (per_item * i) i → Settling s i i ix'
  link_on {owner} fo hk ec ho {ix'} q =
      let big = l.long in
      let on = linked_on s ix i l.linked h (omega arith) (omega arith) (omega arith) in
      let r : ix' ≡ fronted ix (per_item * (item_at s i).owner + 2 + (item_at s i).kind) (per_item * i) i = rw (← fk, ← fo) q in
      record {
        long = rw (q, fronted-length ix (per_item * owner + 2 + kind) (per_item * i) i) l.long;
        linked = rw r on;
        chained = chained-frame s (length s.items) ix ix' (λ b. same (per_item * length s.items + b) (λ x. omega arith) (λ x. omega arith)) (λ j. same (per_item * j + 1) (λ x. omega arith) (λ x. omega arith)) l.chained;
        resolved = record { is = λ j a b d. same (per_item * j + 1) (λ x. omega arith) (λ x. omega arith) ∙ l.resolved.is j a b d };
      }
    where
      same : (j : ℕ) → (j ≡ per_item * owner + 2 + kind → ⊥) → (j ≡ per_item * i → ⊥) → get_or ix' j 0 ≡ get_or ix j 0
      same j a b = rw q (fronted-other ix (per_item * owner + 2 + kind) (per_item * i) i j a b)

-- the array of the sorted names, and their numbers
pub zeros-long : 1024 ≤ length {A = ℕ} (replicate 1024 0)
zeros-long = let e = length-replicate {A = ℕ} 1024 0 in omega arith

field-aside : declares 9 ≡ false
unfolding declares
field-aside = refl

module _ (s : Schema) (i : ℕ) {k : ℕ} (f : k ≡ (item_at s i).kind) (ix : List ℕ) (c : Settling s (i + 1) (i + 1) ix) where
  pub resolve-off : (k ≡ 9 → ⊥) → Settling s (i + 1) i ix
  resolve-off n =
      record {
        long = c.long;
        linked = c.linked;
        chained = c.chained;
        resolved = record { is = λ j a l d. by_less i j (λ b. c.resolved.is j (omega arith) l d) (λ b. let q : j ≡ i = omega arith in absurd (n (f ∙ (rw q at d)))) };
      }

  pub resolve-on : k ≡ 9 → i < length s.items → {w : List ℕ} → w ≡ (item_at s i).second → {d : ℕ} → (d ≡ declaration_code (declaration_of s w)) × (d < 1026) → {ix' : List ℕ} → ix' ≡ set ix (per_item * i + 1) d → Settling s (i + 1) i ix'
  resolve-on ek h {w} ew {d} ed {ix'} q =
      record {
        long = rw (q, length-set) c.long;
        linked = linked-frame s (i + 1) ix ix' (λ a o ha. rw q (get_or-set_other ix (per_item * i + 1) (per_item * o + 2 + a) d 0 (λ x. omega arith))) (λ j. rw q (get_or-set_other ix (per_item * i + 1) (per_item * j) d 0 (λ x. omega arith))) c.linked;
        chained = rw q (chained-aside s (length s.items) ix i d h aside c.chained);
        resolved = record { is = λ j a l b. by_less i j (λ o. rw q (get_or-set_other ix (per_item * i + 1) (per_item * j + 1) d 0 (λ x. omega arith) ∙ c.resolved.is j (omega arith) l b)) (λ o. let z : j ≡ i = omega arith in rw (z, q) (here ∙ ed.0 ∙ ap (λ x. declaration_code (declaration_of s x)) ew)) };
      }
    where
      here : get_or (set ix (per_item * i + 1) d) (per_item * i + 1) 0 ≡ d
      here = let l = c.long in get_or-set_same ix (per_item * i + 1) d 0 (omega arith)

      aside : declares (item_at s i).kind ≡ false
      aside = ap declares (sym f ∙ ek) ∙ field-aside

-- ---- all

pub indexed-built : (s : Schema) (ix : List ℕ) → Settling s 0 0 ix → Indexed s ix
indexed-built s ix c = record { long = let l = c.long in omega arith; links = c.linked; types = c.resolved }
