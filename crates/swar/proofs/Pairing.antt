-- Laws of finding a short text at eight places, by what the marks of its bytes have in common.
use Rattle.std.proofs.Common.{◌≡◌, refl, sym, ap, ap₂, ◌∙◌, Bool, true, false, List, [], ◌∷◌, ◌++◌, ℕ, zero, suc, ◌+◌, ◌-◌, ◌*◌, ◌/◌, ◌≤◌, ◌<◌, not, add_comm, add-one, arith, ltb, lit<, length, take, drop, get_or, length-drop, length-take-le, drop-drop, take-suc, ltb-true, ltb-false}
use lib.Bits.{bit_and, and_block}
use lib.Count.{count_trailing_zeros, trailing_of_zero, trailing_le}
use Rattle.std.proofs.lemmas.List.Sums.{prefix_len_passes}
use Rattle.std.proofs.lemmas.Bool.{not-true}
use Rattle.std.specs.List.{prefix_len}
use Rattle.texts.specs.Choice.{pick, ◌and◌}
use Rattle.texts.specs.Scan.{is}
use Rattle.texts.specs.Text.{starts_with}
use Rattle.texts.proofs.Choosing.{by-test}
use Rattle.texts.proofs.Comparing.{starts-byte, starts-append}
use Rattle.swar.specs.Word.{word_of}
use Rattle.swar.specs.internal.Marks.{Marked, places, Flagged}
use Rattle.swar.specs.internal.Standing.{Lacks}
use Rattle.swar.proofs.Finding.{flagged, lowest}

-- ---- where a text stands among n places, a byte for each

flag-lt : (b : Bool) → pick b 128 0 < 256
flag-lt true = lit< tt
flag-lt false = lit< tt

flag-and : (a b : Bool) → bit_and (pick a 128 0) (pick b 128 0) ≡ pick (a and b) 128 0
flag-and true true = refl
flag-and true false = refl
flag-and false b = refl

-- a text of one byte
byte-flags : (x n : ℕ) (u : List ℕ) → n ≤ length u → flagged (is x) (take n u) ≡ flagged (starts_with (x ∷ [])) (places n u)
unfolding word_of places
byte-flags x zero u h = refl
byte-flags x (suc n) [] h = absurd (omega arith)
byte-flags x (suc n) (b ∷ u) h = ap₂ (λ (r : ℕ) (t : Bool). r * 256 + pick t 128 0) (byte-flags x n u (omega arith)) (sym (starts-byte x b u))

-- two texts, the second right behind the first
both-flags : (v w : List ℕ) (n : ℕ) (u : List ℕ) → bit_and (flagged (starts_with v) (places n u)) (flagged (starts_with w) (places n (drop (length v) u))) ≡ flagged (starts_with (v ++ w)) (places n u)
unfolding word_of places
both-flags v w zero u = refl
both-flags v w (suc n) u =
    let l = length v in
    let e : drop 1 (drop l u) ≡ drop l (drop 1 u) = drop-drop 1 l u ∙ ap (λ (k : ℕ). drop k u) (add_comm l 1) ∙ sym (drop-drop l 1 u) in
    let a = flagged (starts_with v) (places n (drop 1 u)) in
    and_block 8 a _ (pick (starts_with v u) 128 0) (pick (starts_with w (drop l u)) 128 0) (flag-lt (starts_with v u)) (flag-lt (starts_with w (drop l u)))
    ∙ ap₂ (λ (m r : ℕ). m * 256 + r)
    (ap (λ (t : List ℕ). bit_and a (flagged (starts_with w) (places n t))) e ∙ both-flags v w n (drop 1 u))
    (flag-and (starts_with v u) (starts_with w (drop l u)) ∙ ap (λ (b : Bool). pick b 128 0) (sym (starts-append v w u)))

place-at : (n : ℕ) (u : List ℕ) (k : ℕ) → k < n → get_or (places n u) k [] ≡ drop k u
unfolding places
place-at zero u k h = absurd (omega arith)
place-at (suc n) u zero h = refl
place-at (suc n) u (suc k) h = place-at n (drop 1 u) k (omega arith) ∙ drop-drop k 1 u ∙ ap (λ (j : ℕ). drop j u) (let z : 1 + k ≡ suc k = omega arith in z)

-- ---- eight places

pub lacks-start : {text s : List ℕ} {at : ℕ} → Lacks text s at at
lacks-start = record { forward = omega arith; none = λ k h l. absurd (omega arith) }

module _ {text s : List ℕ} {at i m : ℕ} (inv : Lacks text s at i) (e : Flagged text s i m) where
  -- the text stands at no place before the lowest mark
  behind : (j : ℕ) → j < count_trailing_zeros 64 m / 8 → starts_with text (drop (i + j) s) ≡ false
  unfolding places
  behind j l =
      let u = drop i s in
      let q : count_trailing_zeros 64 m / 8 ≡ prefix_len (λ a. not (starts_with text a)) (places 8 u) = ap (λ (n : ℕ). count_trailing_zeros 64 n / 8) e.is ∙ lowest (starts_with text) (places 8 u) in
      let p = prefix_len_passes (λ a. not (starts_with text a)) (places 8 u) j [] (omega (arith, q)) in
      ap (starts_with text) (sym (place-at 8 u j (omega (arith, trailing_le 64 m)) ∙ drop-drop j i s)) ∙ not-true _ p

  lacks-to : (n : ℕ) → n ≤ count_trailing_zeros 64 m / 8 → Lacks text s at (i + n)
  lacks-to n h = record {
    forward = omega (arith, inv.forward);
    none = λ k a l.
        by-test (ltb k i)
        (λ t. inv.none k a (ltb-true k i t))
        (λ f. let g : i ≤ k = ltb-false k i f in
        let z : i + (k - i) ≡ k = omega arith in
        ap (λ (j : ℕ). starts_with text (drop j s)) (sym z) ∙ behind (k - i) (omega arith));
  }

  pub text-on : m ≡ 0 → Lacks text s at (i + 8)
  text-on z = lacks-to 8 (omega (arith, ap (count_trailing_zeros 64) z, trailing_of_zero 64))

  pub text-stop : Lacks text s at (i + count_trailing_zeros 64 m / 8)
  text-stop = lacks-to (count_trailing_zeros 64 m / 8) (omega arith)

-- ---- the marks of a text's bytes, one after another

-- the empty text stands everywhere
pub flagged-start : (s : List ℕ) (i : ℕ) → Flagged [] s i 9259542123273814144
unfolding places word_of starts_with
flagged-start s i = record { is = refl }

-- one more byte of the text
pub flagged-more : (t s : List ℕ) (i k : ℕ) {m a : ℕ} → Flagged (take k t) s i m → k < length t → Marked (get_or t k 0) s (i + k) a → i + k + 8 ≤ length s → Flagged (take (k + 1) t) s i (bit_and m a)
flagged-more t s i k {m} {a} p h e room =
    let x = get_or t k 0 in
    let l : length (take k t) ≡ k = length-take-le k t (omega arith) in
    let w : take k t ++ (x ∷ []) ≡ take (k + 1) t = sym (rw add-one (take-suc t k 0 h)) in
    let q : a ≡ flagged (starts_with (x ∷ [])) (places 8 (drop (length (take k t)) (drop i s))) =
    e.is ∙ byte-flags x 8 (drop (i + k) s) (omega (arith, length-drop (i + k) s)) ∙ rw (l, drop-drop) in
    let both : Flagged (take k t ++ (x ∷ [])) s i (bit_and m a) = record { is = ap₂ bit_and p.is q ∙ both-flags (take k t) (x ∷ []) 8 (drop i s) } in
    rw w at both
