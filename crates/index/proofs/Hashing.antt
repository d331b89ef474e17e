-- Laws of the hash, each from the facts at hand where the code needs it.
use Rattle.model.proofs.Records.{by_less}
use Rattle.std.proofs.Common.{◌≡◌, refl, ap, List, ℕ, zero, suc, ◌+◌, ◌-◌, ◌*◌, ◌/◌, ◌%◌, ◌≤◌, ◌<◌, arith, length, get_or, eq-eqb, ne_eqb, lt-ltb, le-ltb}
use lib.Bits.{bit_and, bit_xor, and_le_l, and_le_r}
use Rattle.texts.specs.Text.{piece}
use Rattle.model.specs.Schema.{Schema}
use Rattle.swar.specs.Word.{IsWord, IsHalf}
use Rattle.index.specs.Blank.{per_item, mask_of}
use Rattle.index.specs.internal.Index.{short_word, mix, words_from, long_word, narrowed, hash, HashOf, chain_of, HeadOf}

-- ---- less than 8 bytes

module _ (s : List ℕ) where
  pub short-four : 4 ≤ length s → {a b : ℕ} → IsHalf (piece s 0 4) a → IsHalf (piece s (length s - 4) 4) b → a + b * 4294967296 ≡ short_word s
  unfolding short_word
  short-four h ea eb = rw (le-ltb (length s) 4 h, ea.is, eb.is)

  pub short_none : length s < 4 → length s ≡ 0 → 0 ≡ short_word s
  unfolding short_word
  short_none h e = rw (lt-ltb (length s) 4 h, eq-eqb (length s) 0 e)

  pub short-some : length s < 4 → (length s ≡ 0 → ⊥) → {a b c : ℕ} → a ≡ get_or s 0 0 → b ≡ get_or s (length s / 2) 0 → c ≡ get_or s (length s - 1) 0 → a + b * 256 + c * 65536 + length s * 16777216 ≡ short_word s
  unfolding short_word
  short-some h n ea eb ec = rw (lt-ltb (length s) 4 h, ne_eqb (length s) 0 n, ea, eb, ec)

-- ---- 8 bytes and more: what remains to be mixed in stays as it is

pub mix-is : (h w : ℕ) → bit_xor (h % 1152921504606846976 * 9) w ≡ mix h w
unfolding mix
mix-is h w = refl

pub record Hashing (s : List ℕ) (i h : ℕ) : Type 0 where
  pub left : ℕ
  pub enough : length s < i + 8 * left
  pub within : i < length s
  pub rest : words_from left h i s ≡ long_word s

pub hashing-start : {s : List ℕ} → 8 ≤ length s → Hashing s 0 (length s)
hashing-start {s} h = record { left = length s; enough = omega arith; within = omega arith; rest = refl }

module _ {s : List ℕ} {i h : ℕ} (k : Hashing s i h) where
  pub hashing-on : i + 8 < length s → {w : ℕ} → IsWord (piece s i 8) w → {r : ℕ} → r ≡ mix h w → Hashing s (i + 8) r
  unfolding words_from
  hashing-on l {w} ew {r} er = go k.left k.enough k.rest
    where
      go : (n : ℕ) → length s < i + 8 * n → words_from n h i s ≡ long_word s → Hashing s (i + 8) r
      go zero e q = absurd (let z = k.within in omega arith)
      go (suc n) e q = record { left = n; enough = omega arith; within = l; rest = rw (er, ew.is) (rw (lt-ltb (i + 8) (length s) l, words_from) at q) }

  pub hashing-end : length s ≤ i + 8 → {w : ℕ} → IsWord (piece s (length s - 8) 8) w → {r : ℕ} → r ≡ mix h w → r ≡ long_word s
  unfolding words_from
  hashing-end l {w} ew {r} er = go k.left k.enough k.rest
    where
      go : (n : ℕ) → length s < i + 8 * n → words_from n h i s ≡ long_word s → r ≡ long_word s
      go zero e q = absurd (let z = k.within in omega arith)
      go (suc n) e q = rw (er, ew.is) (rw (le-ltb (i + 8) (length s) l, words_from) at q)

-- the first word
module _ (s : List ℕ) (a : 8 ≤ length s) {w : ℕ} (ew : IsWord (piece s 0 8) w) {h : ℕ} (eh : h ≡ mix (length s) w) where
  pub words-one : length s ≡ 8 → h ≡ long_word s
  words-one e =
      let z : length s - 8 ≡ 0 = omega arith in
      let last : IsWord (piece s (length s - 8) 8) w = rw z ew in hashing-end (hashing-start {s = s} a) (omega arith) last eh

  pub words-more : (length s ≡ 8 → ⊥) → Hashing s 8 h
  words-more n = hashing-on (hashing-start {s = s} a) (by_less 8 (length s) (λ l. l) (λ l. absurd (n (omega arith)))) ew eh

-- ---- the hash of any name

pub narrowed-is : (w : ℕ) → ((w % 4294967296 * 1981491285 + w / 4294967296 * 1113222403) / 1073741824 % 1024 ≡ narrowed w) × ((w % 4294967296 * 1981491285 + w / 4294967296 * 1113222403) / 1073741824 % 1024 < 1024)
unfolding narrowed
narrowed-is w = (refl, omega arith)

module _ (s : List ℕ) {w r : ℕ} (er : (r ≡ narrowed w) × (r < 1024)) where
  pub hash-short : length s < 8 → w ≡ short_word s → HashOf s r
  unfolding hash
  hash-short h e = record { is = rw (lt-ltb (length s) 8 h, ← e) er.0; low = er.1 }

  pub hash-long : 8 ≤ length s → w ≡ long_word s → HashOf s r
  unfolding hash
  hash-long h e = record { is = rw (le-ltb (length s) 8 h, ← e) er.0; low = er.1 }

-- ---- the head of its chain

pub mask-many : {n : ℕ} → 128 < n → 1023 ≡ mask_of n
unfolding mask_of
mask-many {n} h = rw (lt-ltb 128 n h)

pub mask-few : {n : ℕ} → n ≤ 128 → 127 ≡ mask_of n
unfolding mask_of
mask-few {n} h = rw (le-ltb 128 n h)

pub masked-many : (h : ℕ) {n : ℕ} → 128 < n → (bit_and h 1023 ≡ bit_and h (mask_of n)) × (bit_and h 1023 ≤ h)
masked-many h e = (ap (bit_and h) (mask-many e), and_le_l h 1023)

pub masked-few : (h : ℕ) {n : ℕ} → n ≤ 128 → (bit_and h 127 ≡ bit_and h (mask_of n)) × (bit_and h 127 ≤ h)
masked-few h e = (ap (bit_and h) (mask-few e), and_le_l h 127)

pub head-is : (s : Schema) (name : List ℕ) {n : ℕ} → n ≡ length s.items → {h : ℕ} → HashOf name h → {k : ℕ} → (k ≡ bit_and h (mask_of n)) × (k ≤ h) → HeadOf s name (per_item * n + k)
unfolding chain_of
head-is s name {n} en {h} eh {k} ek =
    record {
      is = rw (ek.0, eh.is, en);
      low = and_le_r (hash name) (mask_of (length s.items));
    }
