-- The sorted names of the first items, and of one more.
use Rattle.std.proofs.Common.{◌≡◌, refl, sym, ap, ◌∙◌, Bool, true, false, List, ℕ, ◌+◌, ◌-◌, ◌≤◌, ◌<◌, arith, eqb, length, get_or, set, length-set, get_or-set_same, get_or-set_other, eq-eqb, ne_eqb, Result, Ok, Err}
use Rattle.model.specs.Schema.{Schema, item_at, a_type}
use Rattle.model.proofs.Records.{by_less}
use Rattle.std.specs.declared.cmp.Ordering.TheVariants.{Less, Equal, Greater}
use Rattle.index.specs.Declarations.{declares, declaration_of, declaration_code}
use Rattle.index.specs.internal.Sorted.{order, code_in, worth, name_at, Rising, Placed, Inserted, Ordered, Meeting}
use Rattle.index.proofs.Comparing.{order-refl, greater-less}
use Rattle.index.proofs.Numbering.{by_equal, number-none, number-all, number-aside, number-other, number-fresh, number-kept}

less-apart : (x y : List ℕ) → order x y ≡ Less → x ≡ y → ⊥
less-apart x y t r = let u : order x y ≡ Equal = rw r (order-refl y) in let w : ◌≡◌ {A = ℕ} 0 1 = cc in omega arith

greater-apart : (x y : List ℕ) → order x y ≡ Greater → x ≡ y → ⊥
greater-apart x y t r = less-apart y x (greater-less x y t) (sym r)

pub ordered-start : (s : Schema) (names : List ℕ) → length s.items ≤ 1024 → 1024 ≤ length names → Ordered s 0 names 0
ordered-start s names most h =
    record {
      most = most;
      room = h;
      few = omega arith;
      rising = record { long = omega arith; up = λ a b l m. absurd (omega arith) };
      below = λ a l. absurd (omega arith);
      is = λ a l. absurd (omega arith);
      none = λ name f. number-none s name;
    }

pub ordered_end : (s : Schema) (names : List ℕ) {i c n : ℕ} → Ordered s i names n → i ≤ c → c ≡ length s.items → c ≤ i → Ordered s (length s.items) names n
ordered_end s names {i} {c} o a e b = let q : i ≡ length s.items = omega arith in rw q at o

pub ordered-rising : (s : Schema) (names : List ℕ) {i n : ℕ} → Ordered s i names n → Rising s names n
ordered-rising s names o = o.rising

-- ---- one more item

module _ (s : Schema) (i : ℕ) (names : List ℕ) (n : ℕ) (o : Ordered s i names n) (h : i < length s.items) where
  aside : declares (item_at s i).kind ≡ false → Ordered s (i + 1) names n
  aside f =
      record {
        most = o.most;
        room = o.room;
        few = let l = o.few in omega arith;
        rising = o.rising;
        below = λ a l. let b = o.below a l in omega arith;
        is = λ a l. o.is a l ∙ sym (number-aside s i h (name_at s names a) f);
        none = λ name g. number-aside s i h name f ∙ o.none name g;
      }

  module _ (d : declares (item_at s i).kind ≡ true) where
    -- a name that is there already, at p
    module _ (p : ℕ) (l : p < n) (e : name_at s names p ≡ (item_at s i).name) where
      absent : (name : List ℕ) → ((a : ℕ) → a < n → name_at s names a ≡ name → ⊥) → (item_at s i).name ≡ name → ⊥
      absent name g q = g p l (e ∙ q)

      other : (a : ℕ) → a < n → (a ≡ p → ⊥) → (item_at s i).name ≡ name_at s names a → ⊥
      other a k z q =
          by_less a p
          (λ b. less-apart (name_at s names a) (name_at s names p) (o.rising.up a p b l) (sym q ∙ sym e))
          (λ b. less-apart (name_at s names p) (name_at s names a) (o.rising.up p a (past b) k) (e ∙ q))
        where
          past : p ≤ a → p < a
          past b = by_less p a (λ k. k) (λ k. absurd (z (omega arith)))

      stays : (eqb (item_at s (get_or names p 0)).kind a_type ≡ false) → Ordered s (i + 1) names n
      stays f =
          record {
            most = o.most;
            room = o.room;
            few = let w = o.few in omega arith;
            rising = o.rising;
            below = λ a k. let b = o.below a k in omega arith;
            is = λ a k. by_equal a p
                (λ q. rw q (o.is p l ∙ one ∙ sym (number-kept s i h (name_at s names p) d (sym e) one)))
                (λ q. o.is a k ∙ sym (number-other s i h (name_at s names a) (other a k q)));
            none = λ name g. number-other s i h name (absent name g) ∙ o.none name g;
          }
        where
          one : code_in s i (name_at s names p) ≡ 1
          one = sym (o.is p l) ∙ rw f

      module _ (t : eqb (item_at s (get_or names p 0)).kind a_type ≡ true) {new : List ℕ} (en : new ≡ set names p i) where
        long : p < length names
        long = let w = o.rising.long in omega arith

        at_p : get_or new p 0 ≡ i
        at_p = rw en (get_or-set_same names p i 0 long)

        at_other : (a : ℕ) → (a ≡ p → ⊥) → get_or new a 0 ≡ get_or names a 0
        at_other a q = rw en (get_or-set_other names p a i 0 q)

        named : (a : ℕ) → name_at s new a ≡ name_at s names a
        named a = by_equal a p (λ q. rw q (ap (λ x. (item_at s x).name) at_p ∙ sym e)) (λ q. ap (λ x. (item_at s x).name) (at_other a q))

        fresh : code_in s i (item_at s i).name ≡ 1 → ⊥
        fresh q = let w : get_or names p 0 + 2 ≡ 1 = (rw (t, e) at (o.is p l)) ∙ q in omega arith

        replaced : Ordered s (i + 1) new n
        replaced =
            record {
              most = o.most;
              room = rw (en, length-set) o.room;
              few = let w = o.few in omega arith;
              rising = record { long = rw (en, length-set) o.rising.long; up = λ a b k m. rw (named a, named b) (o.rising.up a b k m) };
              below = λ a k. by_equal a p (λ q. rw q (let b = at_p in omega arith)) (λ q. let w = at_other a q in let b = o.below a k in omega arith);
              is = λ a k. by_equal a p
                  (λ q. rw q (ap (worth s) at_p ∙ sym (number-fresh s i h (item_at s i).name d refl fresh) ∙ ap (λ x. code_in s (i + 1) (item_at s x).name) (sym at_p)))
                  (λ q. ap (worth s) (at_other a q) ∙ o.is a k ∙ sym (number-other s i h (name_at s names a) (other a k q)) ∙ ap (code_in s (i + 1)) (sym (named a)));
              none = λ name g. let g' : (a : ℕ) → a < n → name_at s names a ≡ name → ⊥ = λ a k q. g a k (named a ∙ q) in number-other s i h name (absent name g') ∙ o.none name g';
            }

    -- a name that is not there, before the one at p
    module _ (p : ℕ) (hp : p ≤ n) (less : (a : ℕ) → a < p → order (name_at s names a) (item_at s i).name ≡ Less) (greater : (a : ℕ) → p ≤ a → a < n → order (name_at s names a) (item_at s i).name ≡ Greater) {new : List ℕ} (v : Inserted names n p i new) where
      unmet : (a : ℕ) → a < n → name_at s names a ≡ (item_at s i).name → ⊥
      unmet a l = by_less a p (λ b. less-apart (name_at s names a) (item_at s i).name (less a b)) (λ b. greater-apart (name_at s names a) (item_at s i).name (greater a b l))

      unheard : code_in s i (item_at s i).name ≡ 1 → ⊥
      unheard q = let z = o.none (item_at s i).name unmet in omega arith

      low-name : (a : ℕ) → a < p → name_at s new a ≡ name_at s names a
      low-name a l = ap (λ x. (item_at s x).name) (v.low a l)

      here-name : name_at s new p ≡ (item_at s i).name
      here-name = ap (λ x. (item_at s x).name) v.here

      high-name : (a : ℕ) → p ≤ a → a < n → name_at s new (a + 1) ≡ name_at s names a
      high-name a l k = ap (λ x. (item_at s x).name) (v.high a l k)

      -- case split: where a place of the new names comes from
      by-slot {ℓ} : {X : ℕ → Type ℓ} (a : ℕ) → a < n + 1 → ((b : ℕ) → b < p → X b) → X p → ((b : ℕ) → p ≤ b → b < n → X (b + 1)) → X a
      by-slot {X} a l f g k =
          by_less a p (f a)
          (λ b. by_equal a p (λ q. rw q g) (λ q. let z : a - 1 + 1 ≡ a = by_less p a (λ w. omega arith) (λ w. absurd (q (omega arith))) in let y : p ≤ a - 1 = by_less p a (λ w. omega arith) (λ w. absurd (q (omega arith))) in rw z at (k (a - 1) y (omega arith))))

      up : (a b : ℕ) → a < b → b < n + 1 → order (name_at s new a) (name_at s new b) ≡ Less
      up a b l m =
          by-slot {X = λ b. a < b → order (name_at s new a) (name_at s new b) ≡ Less} b m
          (λ c k q. rw (low-name a (omega arith), low-name c k) (o.rising.up a c q (omega arith)))
          (λ q. rw (low-name a q, here-name) (less a q))
          (λ c k j q. by-slot {X = λ a. a < c + 1 → order (name_at s new a) (name_at s new (c + 1)) ≡ Less} a (omega arith)
          (λ d y w. rw (low-name d y, high-name c k j) (o.rising.up d c (omega arith) j))
          (λ w. rw (here-name, high-name c k j) (greater-less (name_at s names c) (item_at s i).name (greater c k j)))
          (λ d y x w. rw (high-name d y x, high-name c k j) (o.rising.up d c (omega arith) j))
          q)
          l

      fresh-worth : worth s (get_or new p 0) ≡ code_in s (i + 1) (name_at s new p)
      fresh-worth = ap (worth s) v.here ∙ sym (number-fresh s i h (item_at s i).name d refl unheard) ∙ ap (code_in s (i + 1)) (sym here-name)

      old-worth : (a b : ℕ) → a < n → get_or new b 0 ≡ get_or names a 0 → worth s (get_or new b 0) ≡ code_in s (i + 1) (name_at s new b)
      old-worth a b l q = ap (worth s) q ∙ o.is a l ∙ sym (number-other s i h (name_at s names a) (λ z. unmet a l (sym z))) ∙ ap (λ x. code_in s (i + 1) (item_at s x).name) (sym q)

      inserted : Ordered s (i + 1) new (n + 1)
      inserted =
          record {
            most = o.most;
            room = rw v.long o.room;
            few = let w = o.few in omega arith;
            rising = record { long = let w = o.few in let y = o.room in let z = v.long in omega arith; up = up };
            below = λ a l. by-slot {X = λ a. get_or new a 0 < i + 1} a l
                (λ c k. let b = o.below c (omega arith) in let q = v.low c k in omega arith)
                (let q = v.here in omega arith)
                (λ c k j. let b = o.below c j in let q = v.high c k j in omega arith);
            is = λ a l. by-slot {X = λ a. worth s (get_or new a 0) ≡ code_in s (i + 1) (name_at s new a)} a l
                (λ c k. old-worth c c (omega arith) (v.low c k))
                fresh-worth
                (λ c k j. old-worth c (c + 1) j (v.high c k j));
            none = λ name g. number-other s i h name (λ q. g p (omega arith) (here-name ∙ q))
                ∙ o.none name (λ a l q. by_less a p (λ b. g a (omega arith) (low-name a b ∙ q)) (λ b. g (a + 1) (omega arith) (high-name a b l ∙ q)));
          }

-- ---- from the facts at hand in the code

module _ (s : Schema) (i : ℕ) {k : ℕ} (f : k ≡ (item_at s i).kind) (names : List ℕ) {n : ℕ} (o : Ordered s i names n) (h : i < length s.items) {b : Bool} (eb : b ≡ declares k) where
  told : declares (item_at s i).kind ≡ b
  told = sym (eb ∙ ap declares f)

  pub add-aside : b ≡ false → Ordered s (i + 1) names n
  add-aside g = aside s i names n o h (told ∙ g)

  module _ (t : b ≡ true) {w : List ℕ} (ew : w ≡ (item_at s i).name) {r : Result ℕ ℕ} (pl : Placed s names n w r) {p : ℕ} where
    pub add-met : r ≡ Ok p → Meeting s i names n p
    add-met q =
        record {
          ordered = o;
          inside = h;
          declaring = told ∙ t;
          within = (pl.at p q).0;
          same = (pl.at p q).1 ∙ ew;
        }

    pub add-new : r ≡ Err p → {new : List ℕ} → Inserted names n p i new → Ordered s (i + 1) new (n + 1)
    add-new q v =
        let b = pl.before p q in
        inserted s i names n o h (told ∙ t) p b.0
        (λ a l. rw (← ew) (b.1 a l))
        (λ a l k. rw (← ew) (b.2 a l k)) v

pub placed-within : {s : Schema} {names : List ℕ} {n : ℕ} {name : List ℕ} {r : Result ℕ ℕ} → Placed s names n name r → {p : ℕ} → r ≡ Err p → p ≤ n
placed-within pl {p} q = (pl.before p q).0

module _ (s : Schema) (i : ℕ) (names : List ℕ) (n p : ℕ) (x : Meeting s i names n p) {j : ℕ} (ej : j ≡ get_or names p 0) {k : ℕ} (f : k ≡ (item_at s j).kind) where
  kind-there : (item_at s (get_or names p 0)).kind ≡ k
  kind-there = ap (λ y. (item_at s y).kind) (sym ej) ∙ sym f

  pub meet-type : k ≡ 1 → {new : List ℕ} → new ≡ set names p i → Ordered s (i + 1) new n
  meet-type z en = replaced s i names n x.ordered x.inside x.declaring p x.within x.same (eq-eqb (item_at s (get_or names p 0)).kind a_type (kind-there ∙ z)) en

  pub meet-other : (k ≡ 1 → ⊥) → Ordered s (i + 1) names n
  meet-other z = stays s i names n x.ordered x.inside x.declaring p x.within x.same (ne_eqb (item_at s (get_or names p 0)).kind a_type (λ q. z (sym kind-there ∙ q)))

-- ---- what a name is declared as

pub number-nothing : (s : Schema) (names name : List ℕ) {n : ℕ} → Ordered s (length s.items) names n → {r : Result ℕ ℕ} → Placed s names n name r → {p : ℕ} → r ≡ Err p → 0 ≡ declaration_code (declaration_of s name)
number-nothing s names name {n} o pl {p} q =
    let b = pl.before p q in
    sym (o.none name (λ a l. by_less a p (λ k. less-apart (name_at s names a) name (b.1 a k)) (λ k. greater-apart (name_at s names a) name (b.2 a k l)))) ∙ number-all s name

module _ (s : Schema) (names name : List ℕ) {n : ℕ} (o : Ordered s (length s.items) names n) {r : Result ℕ ℕ} (pl : Placed s names n name r) {p : ℕ} (q : r ≡ Ok p) where
  pub placed-in : p < n
  placed-in = (pl.at p q).0

  module _ {j : ℕ} (ej : j ≡ get_or names p 0) where
    pub placed_below : j < 1024
    placed_below = let b = o.below p placed-in in let most = o.most in omega arith

    worth-is : worth s j ≡ declaration_code (declaration_of s name)
    worth-is = ap (worth s) ej ∙ o.is p placed-in ∙ ap (code_in s (length s.items)) (pl.at p q).1 ∙ number-all s name

    module _ {k : ℕ} (f : k ≡ (item_at s j).kind) where
      pub number-type : k ≡ 1 → j + 2 ≡ declaration_code (declaration_of s name)
      number-type z = rw (eq-eqb (item_at s j).kind a_type (sym f ∙ z)) at worth-is

      pub number-named : (k ≡ 1 → ⊥) → 1 ≡ declaration_code (declaration_of s name)
      number-named z = rw (ne_eqb (item_at s j).kind a_type (λ q. z (f ∙ q))) at worth-is
