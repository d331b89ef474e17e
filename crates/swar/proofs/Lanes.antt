-- Laws of words byte by byte: each operation of `marks` acts on a byte as on a lane of its own.
use Rattle.std.proofs.Common.{◌≡◌, refl, sym, ap, ap₂, ◌∙◌, List, [], ◌∷◌, map, map-id, ℕ, zero, suc, ◌+◌, ◌-◌, ◌*◌, ◌^◌, ◌≤◌, ◌<◌, mul-zero, mul-one, mul-add, mul_assoc, arith, eqb, ltb, length, Fits, w64, eqb-true, ltb-true, ltb-false}
use lib.Bits.{bit_and, bit_or, bit_xor, and_block, or_block, xor_block, and_le_l, and_le_r, and_mask, and_high, or_lt, or_add_and, xor_lt, xor_self, xor_add_and}
use borrow.Author.Tests.{eqb-false}
use Rattle.texts.specs.Lists.{Every}
use Rattle.texts.specs.Text.{piece}
use Rattle.texts.proofs.Choosing.{by-test, pick_yes, pick_no}
use Rattle.swar.specs.Word.{word_of, IsWord}
use Rattle.swar.specs.internal.Marks.{mark, Marked}

-- ---- an operation on words is one on each byte

abbrev lanes : (ℕ → ℕ) → List ℕ → ℕ
lanes f s = word_of (map f s)

-- a 1 in each of n bytes
abbrev ones : ℕ → ℕ
ones zero = 0
ones (suc n) = ones n * 256 + 1

same-lanes : (c : ℕ) (s : List ℕ) → c * ones (length s) ≡ lanes (λ b. c) s
unfolding word_of
same-lanes c [] = mul-zero c
same-lanes c (b ∷ s) =
    mul-add c (ones (length s) * 256) 1
    ∙ ap₂ (λ (m n : ℕ). m + n) (sym (mul_assoc c (ones (length s)) 256) ∙ ap (λ (n : ℕ). n * 256) (same-lanes c s)) (mul-one c)

add-lanes : (f g : ℕ → ℕ) (s : List ℕ) → lanes f s + lanes g s ≡ lanes (λ b. f b + g b) s
unfolding word_of
add-lanes f g [] = refl
add-lanes f g (b ∷ s) = omega (arith, add-lanes f g s)

-- functions that agree on bytes below n
eq-lanes : (n : ℕ) (f g : ℕ → ℕ) → ((b : ℕ) → b < n → f b ≡ g b) → (s : List ℕ) → Every (λ b. b < n) s → lanes f s ≡ lanes g s
unfolding word_of Every
eq-lanes n f g e [] h = refl
eq-lanes n f g e (b ∷ s) h = ap₂ (λ (m k : ℕ). m * 256 + k) (eq-lanes n f g e s h.1) (e b h.0)

-- a bitwise operation, which acts on each byte by itself
module _ (op : ℕ → ℕ → ℕ) (nought : op 0 0 ≡ 0)
    (block : (k a b r s : ℕ) → r < 2 ^ k → s < 2 ^ k → op (a * 2 ^ k + r) (b * 2 ^ k + s) ≡ op a b * 2 ^ k + op r s)
    (f g : ℕ → ℕ) (hf : (b : ℕ) → b < 256 → f b < 256) (hg : (b : ℕ) → b < 256 → g b < 256) where
  op-lanes : (s : List ℕ) → Every (λ b. b < 256) s → op (lanes f s) (lanes g s) ≡ lanes (λ b. op (f b) (g b)) s
  unfolding word_of Every
  op-lanes [] h = nought
  op-lanes (b ∷ s) h =
      block 8 (lanes f s) (lanes g s) (f b) (g b) (hf b h.0) (hg b h.0)
      ∙ ap (λ (n : ℕ). n * 256 + op (f b) (g b)) (op-lanes s h.1)

-- ---- one byte

high-set : (v : ℕ) → v < 256 → 128 ≤ v → bit_and v 128 ≡ 128
high-set v h p = and_high v 1 7 ∙ omega arith

-- the high bit is set where the byte v is not 0: a bit below it carries into it, or it is set in v
abbrev filled : ℕ → ℕ
filled v = bit_or (bit_and v 127 + 127) v

low-lt : (v : ℕ) → bit_and v 127 + 127 < 256
low-lt v = omega (arith, and_le_r v 127)

filled-lt : (v : ℕ) → v < 256 → filled v < 256
filled-lt v h = or_lt 8 (bit_and v 127 + 127) v (low-lt v) h

filled-some : (v : ℕ) → v < 256 → 0 < v → bit_and (filled v) 128 ≡ 128
filled-some v h p =
    let a = bit_and v 127 + 127 in
    high-set (filled v) (filled-lt v h) (omega (arith, and_mask v 7, or_add_and a v, and_le_l a v, and_le_r a v))

differ-some : (b x : ℕ) → (b ≡ x → ⊥) → 0 < bit_xor b x
differ-some b x n =
    by-test (ltb 0 (bit_xor b x))
    (λ t. ltb-true 0 (bit_xor b x) t)
    (λ f. absurd (n (omega (arith, ltb-false 0 (bit_xor b x) f, xor_add_and b x, and_le_l b x, and_le_r b x))))

byte-mark : (x b : ℕ) → x < 256 → b < 256 → bit_and (filled (bit_xor b x)) 128 + mark x b ≡ 128
byte-mark x b hx h =
    by-test (eqb b x)
    (λ t. let e : bit_xor b x ≡ 0 = ap (λ (n : ℕ). bit_xor n x) (eqb-true b x t) ∙ xor_self x in
    ap₂ (λ (v m : ℕ). bit_and (filled v) 128 + m) e (pick_yes (eqb b x) 128 0 t))
    (λ f. ap₂ (λ (v m : ℕ). v + m) (filled-some (bit_xor b x) (xor_lt 8 b x h hx) (differ-some b x (eqb-false b x f))) (pick_no (eqb b x) 128 0 f))

-- a byte without its high bit is below 128
low_byte : (b : ℕ) → b < 256 → bit_and b 128 ≡ 0 → b < 128
low_byte b h e =
    by-test (ltb b 128)
    (λ t. ltb-true b 128 t)
    (λ f. absurd (omega (arith, high-set b h (ltb-false b 128 f))))

low-bytes : (s : List ℕ) → Every (λ b. b < 256) s → lanes (λ b. bit_and b 128) s ≡ 0 → Every (λ b. b < 128) s
unfolding word_of Every
low-bytes [] h e = tt
low-bytes (b ∷ s) h e = (low_byte b h.0 (omega arith), low-bytes s h.1 (omega arith))

-- of bytes below 128, 128 minus their difference has the high bit only if they are equal
low-mark : (x b : ℕ) → x < 128 → b < 128 → bit_and (128 - bit_xor b x) 128 ≡ mark x b
low-mark x b hx h =
    by-test (eqb b x)
    (λ t. let e : bit_xor b x ≡ 0 = ap (λ (n : ℕ). bit_xor n x) (eqb-true b x t) ∙ xor_self x in
    ap (λ (v : ℕ). bit_and (128 - v) 128) e ∙ sym (pick_yes (eqb b x) 128 0 t))
    (λ f. and_high (128 - bit_xor b x) 1 7 ∙ omega (arith, differ-some b x (eqb-false b x f)) ∙ sym (pick_no (eqb b x) 128 0 f))

-- ---- eight bytes

module _ {s : List ℕ} {w : ℕ} (q : IsWord s w) (x : ℕ) (hx : x < 256) where
  abbrev same : (c : ℕ) → c * ones 8 ≡ lanes (λ b. c) s
  same c = ap (λ (n : ℕ). c * ones n) (sym q.eight) ∙ same-lanes c s

  differ-lanes : bit_xor w (x * ones 8) ≡ lanes (λ b. bit_xor b x) s
  differ-lanes =
      ap₂ bit_xor (q.is ∙ ap word_of (sym (map-id s))) (same x)
      ∙ op-lanes bit_xor refl xor_block (λ b. b) (λ b. x) (λ b h. h) (λ b h. hx) s q.bytes

  low-lanes : bit_and (bit_xor w (x * ones 8)) (127 * ones 8) + 127 * ones 8 ≡ lanes (λ b. bit_and (bit_xor b x) 127 + 127) s
  low-lanes =
      ap₂ (λ (m n : ℕ). bit_and m n + n) differ-lanes (same 127)
      ∙ ap (λ (n : ℕ). n + lanes (λ b. 127) s) (op-lanes bit_and refl and_block (λ b. bit_xor b x) (λ b. 127) (λ b h. xor_lt 8 b x h hx) (λ b h. omega arith) s q.bytes)
      ∙ add-lanes (λ b. bit_and (bit_xor b x) 127) (λ b. 127) s

  full-lanes : bit_and (bit_or (bit_and (bit_xor w (x * ones 8)) (127 * ones 8) + 127 * ones 8) (bit_xor w (x * ones 8))) (128 * ones 8) ≡ lanes (λ b. bit_and (filled (bit_xor b x)) 128) s
  full-lanes =
      ap₂ bit_and (ap₂ bit_or low-lanes differ-lanes ∙ op-lanes bit_or refl or_block (λ b. bit_and (bit_xor b x) 127 + 127) (λ b. bit_xor b x) (λ b h. low-lt (bit_xor b x)) (λ b h. xor_lt 8 b x h hx) s q.bytes) (same 128)
      ∙ op-lanes bit_and refl and_block (λ b. filled (bit_xor b x)) (λ b. 128) (λ b h. filled-lt (bit_xor b x) (xor_lt 8 b x h hx)) (λ b h. omega arith) s q.bytes

  marks-are : 128 * ones 8 - bit_and (bit_or (bit_and (bit_xor w (x * ones 8)) (127 * ones 8) + 127 * ones 8) (bit_xor w (x * ones 8))) (128 * ones 8) ≡ lanes (mark x) s
  marks-are =
      let all : lanes (λ b. bit_and (filled (bit_xor b x)) 128) s + lanes (mark x) s ≡ 128 * ones 8 =
      add-lanes (λ b. bit_and (filled (bit_xor b x)) 128) (mark x) s
      ∙ eq-lanes 256 (λ b. bit_and (filled (bit_xor b x)) 128 + mark x b) (λ b. 128) (λ b h. byte-mark x b hx h) s q.bytes
      ∙ sym (same 128) in
      omega (arith, full-lanes, all)

  -- where all are below 128
  module _ (hl : x < 128) (e : bit_and w (128 * ones 8) ≡ 0) where
    lows : Every (λ b. b < 128) s
    lows =
        low-bytes s q.bytes
        (sym (ap₂ bit_and (q.is ∙ ap word_of (sym (map-id s))) (same 128)
        ∙ op-lanes bit_and refl and_block (λ b. b) (λ b. 128) (λ b h. h) (λ b h. omega arith) s q.bytes) ∙ e)

    rest-lanes : bit_xor w (x * ones 8) + lanes (λ b. 128 - bit_xor b x) s ≡ 128 * ones 8
    rest-lanes =
        ap (λ (n : ℕ). n + lanes (λ b. 128 - bit_xor b x) s) differ-lanes
        ∙ add-lanes (λ b. bit_xor b x) (λ b. 128 - bit_xor b x) s
        ∙ eq-lanes 128 (λ b. bit_xor b x + (128 - bit_xor b x)) (λ b. 128) (λ b h. omega (arith, xor_lt 7 b x h hl)) s lows
        ∙ sym (same 128)

    low-marks-are : bit_and (128 * ones 8 - bit_xor w (x * ones 8)) (128 * ones 8) ≡ lanes (mark x) s
    low-marks-are =
        let rest : 128 * ones 8 - bit_xor w (x * ones 8) ≡ lanes (λ b. 128 - bit_xor b x) s = omega (arith, rest-lanes) in
        ap₂ bit_and rest (same 128)
        ∙ op-lanes bit_and refl and_block (λ b. 128 - bit_xor b x) (λ b. 128) (λ b h. omega arith) (λ b h. omega arith) s q.bytes
        ∙ eq-lanes 128 (λ b. bit_and (128 - bit_xor b x) 128) (mark x) (λ b h. low-mark x b hl h) s lows

-- ---- what `marks` computes

pub marks-fit : (v : ℕ) → Fits w64 (bit_and v (127 * ones 8) + 127 * ones 8)
marks-fit v = omega (arith, and_le_r v (127 * ones 8))

pub marks-less : (v : ℕ) → bit_and v (128 * ones 8) ≤ 128 * ones 8
marks-less v = and_le_r v (128 * ones 8)

pub marks-made : (s : List ℕ) (i : ℕ) {w x y : ℕ} → IsWord (piece s i 8) w → (y ≡ x) × (x < 256)
    → Marked x s i (128 * ones 8 - bit_and (bit_or (bit_and (bit_xor w (y * ones 8)) (127 * ones 8) + 127 * ones 8) (bit_xor w (y * ones 8))) (128 * ones 8))
marks-made s i {w} {x} q p = rw p.0 (record { is = marks-are q x p.1 })

pub low-less : {s : List ℕ} {w x y : ℕ} → IsWord s w → (y ≡ x) × (x < 256) → x < 128 → bit_and w (128 * ones 8) ≡ 0
    → bit_xor w (y * ones 8) ≤ 128 * ones 8
low-less {s} {w} {x} q p l e = rw p.0 (omega (arith, rest-lanes q x p.1 l e))

pub low-made : (s : List ℕ) (i : ℕ) {w x y : ℕ} → IsWord (piece s i 8) w → (y ≡ x) × (x < 256) → x < 128 → bit_and w (128 * ones 8) ≡ 0
    → Marked x s i (bit_and (128 * ones 8 - bit_xor w (y * ones 8)) (128 * ones 8))
low-made s i {w} {x} q p l e = rw p.0 (record { is = low-marks-are q x p.1 l e })
