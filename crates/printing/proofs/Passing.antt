-- Laws of whole texts: one of which nothing fits is only counted, and one that fits is stored.
use Rattle.std.proofs.Common.{◌≡◌, refl, sym, ap, ◌∙◌, List, [], ◌∷◌, ◌++◌, ℕ, zero, suc, ◌+◌, ◌-◌, ◌≤◌, ◌<◌, min, add-one, arith, length, get_or, set, take, drop, length-drop, take-append-drop, set-set, take-suc, take-add, take_all, length-take-le, eq-eqb, ne_eqb}
use lib.Seq.{sets, set_out, set_comm}
use Rattle.texts.specs.Text.{piece}
use Rattle.swar.proofs.Copying.{sets-append}
use Rattle.printing.specs.Printed.{last, next, past, skipped, laid, Printed}
use Rattle.printing.proofs.Sequencing.{blank, ◌▸◌, length-printed}

-- the next position is at most the sum, and is the sum if it is below `last`
pub past-le : (at : ℕ) (t : List ℕ) → past at t ≤ at + length t
unfolding past
past-le at [] = omega arith
past-le at (b ∷ t) = omega (arith, past-le (next at) t)

pub past-below : (at : ℕ) (t : List ℕ) → past at t < last → past at t ≡ at + length t
unfolding past
past-below at [] h = omega arith
past-below at (b ∷ t) h = omega (arith, past-below (next at) t h)

past-fits : (at : ℕ) (t : List ℕ) → at + length t < last → past at t ≡ at + length t
past-fits at t h = past-below at t (omega (arith, past-le at t))

pub laid-sets : (out : List ℕ) (at : ℕ) (t : List ℕ) → at + length t ≤ last → laid out at t ≡ sets out at t
unfolding laid
laid-sets out at [] h = refl
laid-sets out at (b ∷ t) h =
    let n : next at ≡ suc at = omega arith in
    rw n (laid-sets (set out at b) (suc at) t (omega arith))

-- ---- counted

skipped-none : (at n : ℕ) → n ≡ 0 → at ≡ skipped at n
unfolding skipped
skipped-none at n e = sym (rw (eq-eqb n 0 e))

skipped-some : (at n : ℕ) → (n ≡ 0 → ⊥) → skipped at n ≡ min (at + n) last
unfolding skipped
skipped-some at n z = rw (ne_eqb n 0 z)

pub past-skipped : (at : ℕ) (t : List ℕ) → past at t ≡ skipped at (length t)
unfolding past skipped
past-skipped at [] = refl
past-skipped at (b ∷ []) = refl
past-skipped at (b ∷ c ∷ t) =
    let m = length t in
    let p : skipped (next at) (suc m) ≡ min (next at + suc m) last = skipped-some (next at) (suc m) (λ z. omega arith) in
    let q : skipped at (suc (suc m)) ≡ min (at + suc (suc m)) last = skipped-some at (suc (suc m)) (λ z. omega arith) in
    let r : skipped (next at) (suc m) ≡ skipped at (suc (suc m)) = omega arith in
    past-skipped (next at) (c ∷ t) ∙ r

-- n is what a text measured
skipped-measured : (at n : ℕ) (t : List ℕ) → n ≡ past 0 t → skipped at n ≡ past at t
unfolding past
skipped-measured at n [] e = sym (skipped-none at n e)
skipped-measured at n (b ∷ t) e =
    let m : n ≡ skipped 0 (suc (length t)) = e ∙ past-skipped 0 (b ∷ t) in
    let k : n ≡ min (0 + suc (length t)) last = m ∙ skipped-some 0 (suc (length t)) (λ z. omega arith) in
    let p : past at (b ∷ t) ≡ min (at + suc (length t)) last = past-skipped at (b ∷ t) ∙ skipped-some at (suc (length t)) (λ z. omega arith) in
    let q : skipped at n ≡ min (at + n) last = skipped-some at n (λ z. omega arith) in
    omega arith

laid_out : (out : List ℕ) (at : ℕ) (t : List ℕ) → length out ≤ at → length out ≤ last → laid out at t ≡ out
unfolding laid
laid_out out at [] h l = refl
laid_out out at (b ∷ t) h l = rw (set_out out at b h) (laid_out out (next at) t (omega arith) l)

module _ {out : List ℕ} {at r : ℕ} (t : List ℕ) (h : length out ≤ at) (l : length out < last) where
  pub counted : r ≡ skipped at (length t) → Printed out at out r t
  counted e = record { is = sym (laid_out out at t h (omega arith)); to = e ∙ sym (past-skipped at t) }

  pub counted-measured : {n : ℕ} → n ≡ past 0 t → r ≡ skipped at n → Printed out at out r t
  counted-measured {n} m e = record { is = sym (laid_out out at t h (omega arith)); to = e ∙ skipped-measured at n t m }

-- ---- stored

pub stored : {out : List ℕ} {at b : ℕ} → at < length out → length out ≤ last → Printed out at (set out at b) (at + 1) (b ∷ [])
unfolding laid past
stored h l = record { is = refl; to = omega arith }

-- the first i bytes of s are stored from `at` on
pub record Copying (s out : List ℕ) (at : ℕ) (out' : List ℕ) (i : ℕ) : Type 0 where
  pub sofar : Printed out at out' (at + i) (take i s)
  pub bound : i ≤ length s
  pub room : at + length s ≤ length out
  pub last-room : length out < last

pub copying-start : {s out : List ℕ} {at : ℕ} → at + length s ≤ length out → length out < last → Copying s out at out 0
copying-start {s} {out} {at} h l =
    let z : at + 0 ≡ at = omega arith in
    record { sofar = rw z blank; bound = omega arith; room = h; last-room = l }

module _ {s out : List ℕ} {at : ℕ} {out' : List ℕ} {i : ℕ} (inv : Copying s out at out' i) where
  pub copying-length : length out' ≡ length out
  copying-length = length-printed inv.sofar

  pub copying-within : i < length s → at + i < length out'
  copying-within h = omega (arith, copying-length, inv.room)

  pub copying-on : i < length s → Copying s out at (set out' (at + i) (get_or s i 0)) (i + 1)
  copying-on h =
      let e : at + i + 1 ≡ at + (i + 1) = omega arith in
      let l : length out' ≤ last = omega (arith, copying-length, inv.last-room) in
      let q = inv.sofar ▸ stored {b = get_or s i 0} (copying-within h) l in
      record { sofar = rw (add-one i, take-suc s i 0, ← add-one i, ← e) q; bound = omega arith; room = inv.room; last-room = inv.last-room }

  pub copying-end : length s ≤ i → Printed out at out' (at + length s) s
  copying-end h =
      let e : i ≡ length s = omega (arith, inv.bound) in
      rw (e, take_all (length s) s (omega arith)) at inv.sofar

pub ruleset copying = (copying-length, copying-within, copying-end)

-- ---- two runs, which may overlap

set-below : (vs l : List ℕ) (i j x : ℕ) → j < i → set (sets l i vs) j x ≡ sets (set l j x) i vs
set-below [] l i j x h = refl
set-below (v ∷ vs) l i j x h =
    set-below vs (set l i v) (suc i) j x (omega arith) ∙ ap (λ m. sets m (suc i) vs) (set_comm l i j v x (λ e. omega arith))

sets-over : (k : ℕ) (u d : List ℕ) (o : ℕ) → sets (sets d o (take k u)) o u ≡ sets d o u
sets-over zero u d o = refl
sets-over (suc k) [] d o = refl
sets-over (suc k) (x ∷ u) d o =
    ap (λ m. sets m (suc o) u) (set-below (take k u) (set d o x) (suc o) o x (omega arith) ∙ ap (λ m. sets m (suc o) (take k u)) (set-set d o x x))
    ∙ sets-over k u (set d o x) (suc o)

sets-again : (s d : List ℕ) (at i j : ℕ) → j ≤ i → j ≤ length s → sets (sets d at (take i s)) (at + j) (drop j s) ≡ sets d at s
sets-again s d at i j h l =
    let z : j + (i - j) ≡ i = omega arith in
    let n : length (take j s) ≡ j = length-take-le j s l in
    let front : take i s ≡ take j s ++ take (i - j) (drop j s) = ap (λ k. take k s) (sym z) ∙ take-add j (i - j) s in
    let split : (t : List ℕ) → sets d at (take j s ++ t) ≡ sets (sets d at (take j s)) (at + j) t =
    λ t. sets-append d at (take j s) t ∙ ap (λ k. sets (sets d at (take j s)) (at + k) t) n in
    ap (λ m. sets m (at + j) (drop j s)) (ap (sets d at) front ∙ split (take (i - j) (drop j s)))
    ∙ sets-over (i - j) (drop j s) (sets d at (take j s)) (at + j)
    ∙ sym (split (drop j s)) ∙ ap (sets d at) (take-append-drop j s)

module _ (n : ℕ) (s out : List ℕ) (at : ℕ) where
  pub two-printed : at + length s ≤ length out → length out < last → n ≤ length s → length s ≤ n + n → {o₁ o₂ : List ℕ}
      → o₁ ≡ sets out at (piece s 0 n) → o₂ ≡ sets o₁ (at + (length s - n)) (piece s (length s - n) n) → Printed out at o₂ (at + length s) s
  two-printed h l a b p q =
      let j = length s - n in
      let rest : piece s j n ≡ drop j s = take_all n (drop j s) (omega (arith, length-drop j s)) in
      let e = q ∙ ap (λ m. sets m (at + j) (piece s j n)) p ∙ ap (sets (sets out at (take n s)) (at + j)) rest
      ∙ sets-again s out at n j (omega arith) (omega arith) in
      record { is = e ∙ sym (laid-sets out at s (omega arith)); to = sym (past-fits at s (omega arith)) }

-- a text that fits, and one more byte
module _ {out : List ℕ} {at : ℕ} {out' : List ℕ} {p : ℕ} (s : List ℕ) (f : Printed out at out' p s) (h : at + length s < length out) (l : length out < last) where
  then-place : p ≡ at + length s
  then-place = f.to ∙ past-fits at s (omega arith)

  pub then-within : p < length out'
  then-within = omega (arith, then-place, length-printed f)

  pub then-printed : (b : ℕ) → Printed out at (set out' p b) (p + 1) (s ++ b ∷ [])
  then-printed b = f ▸ stored {b = b} then-within (omega (arith, length-printed f))
