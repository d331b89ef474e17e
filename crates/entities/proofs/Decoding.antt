-- Laws of entities and of decoding.
use Rattle.std.proofs.Common.{◌≡◌, refl, sym, subst, ◌∙◌, true, false, List, [], ◌∷◌, ℕ, zero, suc, ◌+◌, ◌-◌, ◌≤◌, ◌<◌, ◌^◌, zero-le, suc-le-suc, add-one, arith, eqb, ne_eqb, length, drop, get_or, set, length-set, length-drop, drop_of_length-le, drop-cons, drop-drop, Fits, w64, le-leb, Option, Some, None}
use lib.Seq.{sets}
use borrow.Author.Tests.{lt-leb}
use Rattle.texts.specs.Choice.{pick}
use Rattle.texts.specs.Text.{ascii, starts_with}
use Rattle.texts.proofs.Choosing.{pick-by}
use Rattle.texts.proofs.Comparing.{starts-no, starts-length}
use Rattle.entities.specs.declared.Unit.{Unit}
use Rattle.entities.specs.Entities.{entity, front, decoded_past, decoded, DecodedInto}
use Rattle.entities.specs.internal.Copying.{RestInto}

-- ---- a unit is some bytes, and no more than there are

record Sized (n : ℕ) (u : Unit) : Type 0 where
  pub some : 1 ≤ u.len
  pub most : u.len ≤ n + 1

-- an entity whose name stands there
named-sized : (w s : List ℕ) (byte : ℕ) → starts_with w s ≡ true → Sized (length s) (record { byte = byte; len = length w + 1 })
named-sized w s byte t = record { some = omega arith; most = omega (arith, starts-length w s t) }

entity-sized : (s : List ℕ) → Sized (length s) (entity s)
unfolding entity
entity-sized s =
    pick-by (Sized (length s)) (starts_with (ascii "lt;") s) (named-sized (ascii "lt;") s 60)
    (λ f. pick-by (Sized (length s)) (starts_with (ascii "gt;") s) (named-sized (ascii "gt;") s 62)
    (λ f. pick-by (Sized (length s)) (starts_with (ascii "quot;") s) (named-sized (ascii "quot;") s 34)
    (λ f. pick-by (Sized (length s)) (starts_with (ascii "apos;") s) (named-sized (ascii "apos;") s 39)
    (λ f. pick-by (Sized (length s)) (starts_with (ascii "amp;") s) (named-sized (ascii "amp;") s 38)
    (λ f. record { some = omega arith; most = omega arith })))))

front-sized : (x : ℕ) (xs : List ℕ) → Sized (length xs) (front (x ∷ xs))
unfolding front
front-sized x xs = pick-by (Sized (length xs)) (eqb x 38) (λ t. entity-sized xs) (λ f. record { some = omega arith; most = omega arith })

-- ---- which unit stands at a place

pub unit-here : (s : List ℕ) (at : ℕ) → at < length s → front (drop at s) ≡ pick (eqb (get_or s at 0) 38) (entity (drop (at + 1) s)) (record { byte = get_or s at 0; len = 1 })
unfolding front
unit-here s at h = rw (drop-cons s at 0 h, add-one)

-- a text does not stand where its first byte does not
pub starts-other : (c : ℕ) (cs s : List ℕ) (n : ℕ) → (get_or s n 0 ≡ c → ⊥) → starts_with (c ∷ cs) (drop n s) ≡ false
unfolding starts_with
starts-other c cs [] zero f = refl
starts-other c cs [] (suc n) f = refl
starts-other c cs (x ∷ s) zero f = starts-no c x cs s (ne_eqb x c f)
starts-other c cs (x ∷ s) (suc n) f = starts-other c cs s n f

-- ---- decoding

past-drop : (k : ℕ) (s : List ℕ) → decoded_past k s ≡ decoded (drop k s)
unfolding decoded_past
past-drop zero s = refl
past-drop (suc k) [] = refl
past-drop (suc k) (x ∷ xs) = past-drop k xs

pub decoded-cons : (x : ℕ) (xs : List ℕ) (u : Unit) → u ≡ front (x ∷ xs) → decoded (x ∷ xs) ≡ u.byte ∷ decoded (drop (u.len - 1) xs)
unfolding decoded_past
decoded-cons x xs u e = rw (e, ← past-drop)

-- decoding never lengthens
past-length : (k : ℕ) (s : List ℕ) → length (decoded_past k s) ≤ length s
unfolding decoded_past
past-length k [] = zero-le
past-length zero (x ∷ xs) = suc-le-suc (past-length ((front (x ∷ xs)).len - 1) xs)
past-length (suc k) (x ∷ xs) = omega (arith, past-length k xs)

pub decoded-length : (s : List ℕ) → length (decoded s) ≤ length s
decoded-length s = past-length 0 s

-- the unit u stands at i
module _ (s : List ℕ) (i : ℕ) {u : Unit} (h : i < length s) (e : u ≡ front (drop i s)) where
  unit-is : u ≡ front (get_or s i 0 ∷ drop (suc i) s)
  unit-is = rw (drop-cons s i 0 h) at e

  unit-sized : Sized (length (drop (suc i) s)) u
  unit-sized = subst (λ (v : Unit). Sized (length (drop (suc i) s)) v) (sym unit-is) (front-sized (get_or s i 0) (drop (suc i) s))

  pub unit-some : 1 ≤ u.len
  unit-some = unit-sized.some

  pub unit-fits : i + u.len ≤ length s
  unit-fits = omega (arith, unit-sized.most, length-drop (suc i) s)

  pub unit-add : length s < 2 ^ 64 → Fits w64 (i + u.len)
  unit-add l = omega (arith, unit-fits)

  pub unit-less : length s - (i + u.len) < length s - i
  unit-less = omega (arith, unit-some)

  decoded-at : decoded (drop i s) ≡ u.byte ∷ decoded (drop (i + u.len) s)
  decoded-at =
      let k : suc i + (u.len - 1) ≡ i + u.len = omega (arith, unit-some) in
      rw (drop-cons s i 0 h, decoded-cons (get_or s i 0) (drop (suc i) s) u unit-is, drop-drop, k)

-- a loop that decodes s from `from` on into d₀ from `to` on has read up to i and written up to o,
-- which makes d of d₀
pub record Decoding (s : List ℕ) (from : ℕ) (d₀ : List ℕ) (to : ℕ) (d : List ℕ) (i o : ℕ) : Type 0 where
  pub out : sets d o (decoded (drop i s)) ≡ sets d₀ to (decoded (drop from s))
  pub past : o + length (decoded (drop i s)) ≡ to + length (decoded (drop from s))
  pub room : o + (length s - i) ≤ length d
  pub long : length d ≡ length d₀

pub decoding-start : {s d : List ℕ} {from to : ℕ} → to + (length s - from) ≤ length d → Decoding s from d to d from to
decoding-start h = record { out = refl; past = refl; room = h; long = refl }

module _ {s d₀ d : List ℕ} {from to i o : ℕ} (inv : Decoding s from d₀ to d i o) where
  pub decoding-on : {u : Unit} → i < length s → u ≡ front (drop i s) → Decoding s from d₀ to (set d o u.byte) (i + u.len) (o + 1)
  decoding-on {u} h e =
      let z = decoded-at s i h e in
      record {
        out = rw add-one (rw z at inv.out);
        past = omega (arith, rw z at inv.past);
        room = rw length-set (omega (arith, inv.room, unit-some s i h e, unit-fits s i h e));
        long = length-set d o u.byte ∙ inv.long;
      }

  pub decoding-end : length s ≤ i → RestInto (drop from s) d₀ to o d
  unfolding decoded_past
  decoding-end h =
      let e : drop i s ≡ [] = drop_of_length-le s h in
      record { left = rw e at inv.out; ends = omega (arith, rw e at inv.past) }

pub decoding-none : (s d : List ℕ) (at : ℕ) → length d < at + length s → DecodedInto s d at None d
decoding-none s d at h = let t = lt-leb (at + length s) (length d) h in record { says = rw t; left = rw t }

-- ---- the answer: whether the raw text fits

module _ (raw d e : List ℕ) (at : ℕ) {r : Option ℕ} (q : DecodedInto raw d at r e) where
  pub decoded-fits : at + length raw ≤ length d → (r ≡ Some (length (decoded raw))) × (e ≡ sets d at (decoded raw))
  decoded-fits h = let t = le-leb (at + length raw) (length d) h in (rw t at q.says, rw t at q.left)

  pub decoded-short : length d < at + length raw → (r ≡ None) × (e ≡ d)
  decoded-short h = let t = lt-leb (at + length raw) (length d) h in (rw t at q.says, rw t at q.left)
