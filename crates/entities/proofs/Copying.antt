-- Laws of copying text without `&`: eight bytes at a time, the last eight over bytes that are
-- copied already, and the rest.
use Rattle.std.proofs.Common.{◌≡◌, refl, sym, ap, ◌∙◌, Bool, true, false, not, List, [], ◌∷◌, ◌++◌, append-nil, ℕ, zero, suc, ◌+◌, ◌-◌, ◌≤◌, ◌<◌, arith, eqb, length, take, drop, set, length-append, length-take, length-drop, take-append-drop, drop_of_length-le, length-take-le, take_all, take-add, set-set, le-leb, Some}
use lib.Seq.{sets, length-sets, take-length, drop-length, set_comm}
use Rattle.std.specs.List.{prefix_len}
use Rattle.texts.specs.Scan.{scan, until, is}
use Rattle.texts.specs.Text.{piece}
use Rattle.texts.proofs.Choosing.{by-test, pick_no}
use Rattle.texts.proofs.Scanning.{count_yes, count_no, count_past}
use Rattle.swar.proofs.Copying.{sets-append}
use Rattle.entities.specs.Entities.{front, decoded_past, decoded, DecodedInto}
use Rattle.entities.specs.internal.Copying.{PlainTo, RestInto}
use Rattle.entities.proofs.Decoding.{decoded-cons}

-- ---- what lacks '&' stands for itself

plain-front : (x : ℕ) (xs : List ℕ) → eqb x 38 ≡ false → decoded (x ∷ xs) ≡ x ∷ decoded xs
unfolding front
plain-front x xs f = decoded-cons x xs (record { byte = x; len = 1 }) (sym (pick_no (eqb x 38) _ _ f))

plain-split : (n : ℕ) (s : List ℕ) → n ≤ prefix_len (until (is 38)) s → decoded s ≡ take n s ++ decoded (drop n s)
plain-split zero s h = refl
plain-split (suc n) [] h = absurd (omega arith)
plain-split (suc n) (x ∷ xs) h =
    by-test (eqb x 38)
    (λ t. absurd (omega (arith, count_no (until (is 38)) x xs (ap not t))))
    (λ f. plain-front x xs f ∙ ap (λ t. x ∷ t) (plain-split n xs (omega (arith, count_yes (until (is 38)) x xs (ap not f)))))

pub plain-decoded : (s : List ℕ) → prefix_len (until (is 38)) s ≡ length s → decoded s ≡ s
unfolding decoded_past
plain-decoded s e = plain-split (length s) s (omega arith) ∙ rw (take-length, drop-length) (append-nil s)

-- ---- runs of stores

set_below : (vs l : List ℕ) (i j x : ℕ) → j < i → set (sets l i vs) j x ≡ sets (set l j x) i vs
set_below [] l i j x h = refl
set_below (v ∷ vs) l i j x h =
    set_below vs (set l i v) (suc i) j x (omega arith) ∙ ap (λ m. sets m (suc i) vs) (set_comm l i j v x (λ e. omega arith))

-- a run over its own front
sets_over : (k : ℕ) (u d : List ℕ) (o : ℕ) → sets (sets d o (take k u)) o u ≡ sets d o u
sets_over zero u d o = refl
sets_over (suc k) [] d o = refl
sets_over (suc k) (x ∷ u) d o =
    ap (λ m. sets m (suc o) u) (set_below (take k u) (set d o x) (suc o) o x (omega arith) ∙ ap (λ m. sets m (suc o) (take k u)) (set-set d o x x))
    ∙ sets_over k u (set d o x) (suc o)

sets-again : (s d : List ℕ) (at i j : ℕ) → j ≤ i → j ≤ length s → sets (sets d at (take i s)) (at + j) (drop j s) ≡ sets d at s
sets-again s d at i j h l =
    let z : j + (i - j) ≡ i = omega arith in
    let n : length (take j s) ≡ j = length-take-le j s l in
    let front : take i s ≡ take j s ++ take (i - j) (drop j s) = ap (λ k. take k s) (sym z) ∙ take-add j (i - j) s in
    let split : (t : List ℕ) → sets d at (take j s ++ t) ≡ sets (sets d at (take j s)) (at + j) t =
    λ t. sets-append d at (take j s) t ∙ ap (λ k. sets (sets d at (take j s)) (at + k) t) n in
    ap (λ m. sets m (at + j) (drop j s)) (ap (sets d at) front ∙ split (take (i - j) (drop j s)))
    ∙ sets_over (i - j) (drop j s) (sets d at (take j s)) (at + j)
    ∙ sym (split (drop j s)) ∙ ap (sets d at) (take-append-drop j s)

-- ---- the loop over words

pub plain-start : {s d : List ℕ} {at : ℕ} → PlainTo s d at d 0
plain-start = record { left = refl; lacks = refl; within = omega arith }

module _ {s d₀ d : List ℕ} {at i : ℕ} (inv : PlainTo s d₀ at d i) where
  pub plain-length : length d ≡ length d₀
  plain-length = ap length inv.left ∙ length-sets d₀ at (take i s)

  -- what is stored behind the copied bytes
  stored-on : (t : List ℕ) → sets d₀ at (take i s ++ t) ≡ sets (sets d₀ at (take i s)) (at + i) t
  stored-on t = sets-append d₀ at (take i s) t ∙ ap (λ k. sets (sets d₀ at (take i s)) (at + k) t) (length-take-le i s inv.within)

  pub plain-room : at + length s ≤ length d₀ → i + 8 ≤ length s → at + i + 8 ≤ length d
  plain-room h l = omega (arith, plain-length)

  -- w more bytes are copied; b is whether they lack '&'
  pub plain-on : (w : ℕ) → i + w ≤ length s → {b : Bool} → (b ≡ true → scan (until (is 38)) s (i + w) ≡ scan (until (is 38)) s i) → b ≡ true
      → {e : List ℕ} → e ≡ sets d (at + i) (piece s i w) → PlainTo s d₀ at e (i + w)
  plain-on w h f t q =
      record {
        left = q ∙ ap (λ m. sets m (at + i) (piece s i w)) inv.left ∙ sym (ap (sets d₀ at) (take-add i w s) ∙ stored-on (piece s i w));
        lacks = f t ∙ inv.lacks;
        within = h;
      }

-- ---- the end

-- i bytes of s are copied
module _ {s d d₁ : List ℕ} {at i : ℕ} (inv : PlainTo s d at d₁ i) where
  passed : i ≤ prefix_len (until (is 38)) s
  passed = omega (arith, inv.lacks)

  pub rest-room : at + length s ≤ length d → at + i + (length s - i) ≤ length d₁
  rest-room h = omega (arith, plain-length inv, inv.within)

  pub rest-is : {r : ℕ} {e : List ℕ} → RestInto (drop i s) d₁ (at + i) r e → RestInto s d at (at + (r - at)) e
  rest-is {r} q =
      let whole = plain-split i s passed in
      record {
        left = q.left ∙ ap (λ m. sets m (at + i) (decoded (drop i s))) inv.left ∙ sym (ap (sets d at) whole ∙ stored-on inv (decoded (drop i s)));
        ends = omega (arith, q.ends, ap length whole, length-append (take i s) (decoded (drop i s)), length-take-le i s inv.within);
      }

  pub plain-whole : i ≡ length s → RestInto s d at (at + length s) d₁
  unfolding decoded_past
  plain-whole e =
      let none : drop i s ≡ [] = drop_of_length-le s (omega arith) in
      let z : at + (at + i - at) ≡ at + length s = omega arith in
      let rest : RestInto (drop i s) d₁ (at + i) (at + i) d₁ = rw none (record { left = refl; ends = omega arith }) in
      rw z at (rest-is rest)

pub rest-whole : {s d e : List ℕ} {at r : ℕ} → RestInto (drop 0 s) d at r e → RestInto s d at (at + (r - at)) e
rest-whole q = record { left = q.left; ends = omega (arith, q.ends) }

-- the last w bytes are copied, over what is copied already; b is whether they lack '&'
pub plain-last : {s d d₁ : List ℕ} {at i : ℕ} → PlainTo s d at d₁ i → (w : ℕ) → w ≤ length s → length s - w ≤ i
    → {b : Bool} → (b ≡ true → scan (until (is 38)) s (length s - w + w) ≡ scan (until (is 38)) s (length s - w)) → b ≡ true
    → {e : List ℕ} → e ≡ sets d₁ (at + (length s - w)) (piece s (length s - w) w) → RestInto s d at (at + length s) e
plain-last {s} {d} {d₁} {at} {i} inv w g k f t q =
    let j = length s - w in
    let z : j + w ≡ length s = omega arith in
    let before = count_past (until (is 38)) j s (omega (arith, passed inv)) in
    let after = rw z at (f t) in
    let last : piece s j w ≡ drop j s = take_all w (drop j s) (omega (arith, length-drop j s)) in
    let all : PlainTo s d at _ (length s) = record {
      left = q ∙ ap (λ m. sets m (at + j) (piece s j w)) inv.left ∙ ap (sets (sets d at (take i s)) (at + j)) last
          ∙ sets-again s d at i j (omega arith) (omega arith) ∙ ap (sets d at) (sym (take-length s));
      lacks = after ∙ omega (arith, before);
      within = omega arith;
    } in
    plain-whole all refl

-- the first w bytes and the last, which together are all; b is whether both lack '&'
pub two-parts : (w : ℕ) (s d : List ℕ) (at : ℕ) → w ≤ length s → {d₁ : List ℕ} → d₁ ≡ sets d at (piece s 0 w) → length s ≤ w + w
    → {b : Bool} → b ≡ true → (b ≡ true → scan (until (is 38)) s w ≡ scan (until (is 38)) s 0)
    → (b ≡ true → scan (until (is 38)) s (length s - w + w) ≡ scan (until (is 38)) s (length s - w))
    → {e : List ℕ} → e ≡ sets d₁ (at + (length s - w)) (piece s (length s - w) w) → RestInto s d at (at + length s) e
two-parts w s d at g {d₁} p m t f₁ f₂ q =
    let front : PlainTo s d at d₁ w = record { left = p; lacks = f₁ t; within = g } in
    plain-last front w g (omega arith) f₂ t q

-- ---- a part of the document, as another list that equals it

length-piece-le : (s : List ℕ) (a n : ℕ) → length (piece s a n) ≤ n
length-piece-le s a n = rw length-take (omega arith)

module _ (doc : List ℕ) (from len : ℕ) (d : List ℕ) (at : ℕ) {w : List ℕ} (p : w ≡ piece doc from len) where
  pub part_room : at + len ≤ length d → at + length w ≤ length d
  part_room h = rw p (omega (arith, length-piece-le doc from len))

  pub part_left : {n : ℕ} {e : List ℕ} → RestInto w d at n e → e ≡ sets d at (decoded (piece doc from len))
  part_left q = q.left ∙ ap (λ t. sets d at (decoded t)) p

  pub part_length : {r : ℕ} {e : List ℕ} → RestInto w d at (at + r) e → r ≡ length (decoded (piece doc from len))
  part_length q = omega (arith, q.ends, ap (λ t. length (decoded t)) p)

  pub part-written : at ≤ length d → length w ≤ length d - at → {r : ℕ} {e : List ℕ} → RestInto w d at (at + r) e → DecodedInto (piece doc from len) d at (Some r) e
  part-written h l q =
      let t = le-leb (at + length (piece doc from len)) (length d) (omega (arith, ap length p)) in
      record { says = rw (t, part_length q); left = rw t (part_left q) }

pub ruleset plain = (plain-start, plain-length, plain-room, rest-room, rest-whole, part_room, part_length, part_left, part-written)
