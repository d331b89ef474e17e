-- Laws of comparing two names by numbers: from the front on, and last by one that ends with them.
use Rattle.std.proofs.Common.{◌≡◌, sym, ap, ap₂, ◌∙◌, true, false, List, ◌++◌, ℕ, ◌+◌, ◌-◌, ◌≤◌, ◌<◌, arith, eqb, length, take, drop, length-drop, take-append-drop, take_all, take-take, take-add, eq-eqb, eqb-true}
use Rattle.texts.specs.Lists.{Every}
use Rattle.texts.specs.Text.{piece, same}
use Rattle.texts.proofs.Choosing.{by-test, by-both}
use Rattle.texts.proofs.Comparing.{same-equal, equal-same}
use Rattle.swar.specs.Word.{word_of, IsWord, IsHalf}
use Rattle.swar.proofs.Digits.{word-tells}

-- ---- one number of each

module _ (a b : List ℕ) (i n : ℕ) {x y : ℕ} (u : x ≡ word_of (piece a i n)) (v : y ≡ word_of (piece b i n)) where
  one_name : same a b ≡ true → x ≡ y
  one_name t = u ∙ ap (λ s. word_of (piece s i n)) (same-equal a b t) ∙ sym v

  pub differ : (x ≡ y → ⊥) → false ≡ same a b
  differ d = by-test (same a b) (λ t. absurd (d (one_name t))) (λ f. sym f)

  module _ (k : length (piece a i n) ≡ length (piece b i n)) (h : Every (λ b. b < 256) (piece a i n)) (l : Every (λ b. b < 256) (piece b i n)) where
    tell : x ≡ y → piece a i n ≡ piece b i n
    tell e = word-tells (piece a i n) (piece b i n) k h l (sym u ∙ e ∙ v)

    -- the last number decides, if all bytes before it are the same
    decide : length a ≡ i + n → length b ≡ i + n → (m : ℕ) → i ≤ m → take m a ≡ take m b → eqb x y ≡ same a b
    decide ea eb m w front =
        by-both (eqb x y) (same a b) (λ t. equal-same (whole (eqb-true x y t))) (λ t. eq-eqb x y (one_name t))
      where
        ends : (s : List ℕ) → length s ≡ i + n → piece s i n ≡ drop i s
        ends s e = take_all n (drop i s) (let d = length-drop i s in omega arith)

        before : take i a ≡ take i b
        before = sym (take-take i m a w) ∙ ap (take i) front ∙ take-take i m b w

        whole : x ≡ y → a ≡ b
        whole e = sym (take-append-drop i a) ∙ ap₂ ◌++◌ before (sym (ends a ea) ∙ tell e ∙ ends b eb) ∙ take-append-drop i b

-- ---- words, where a loop has compared k bytes, and halves

module _ (a b : List ℕ) (k : ℕ) (front : take k a ≡ take k b) where
  pub alike-on : {x y : ℕ} → IsWord (piece a k 8) x → IsWord (piece b k 8) y → x ≡ y → take (k + 8) a ≡ take (k + 8) b
  alike-on u v e = take-add k 8 a ∙ ap₂ ◌++◌ front (tell a b k 8 u.is v.is (u.eight ∙ sym v.eight) u.bytes v.bytes e) ∙ sym (take-add k 8 b)

  pub words-decide : 8 ≤ length a → length a ≡ length b → length a ≤ k + 8 → {x y : ℕ} → IsWord (piece a (length a - 8) 8) x → IsWord (piece b (length a - 8) 8) y → eqb x y ≡ same a b
  words-decide h e l u v =
      decide a b (length a - 8) 8 u.is v.is (u.eight ∙ sym v.eight) u.bytes v.bytes (omega arith) (omega arith) k (omega arith) front

pub halves-decide : (a b : List ℕ) → 4 ≤ length a → length a < 8 → length a ≡ length b → {x y : ℕ} → IsHalf (piece a 0 4) x → IsHalf (piece b 0 4) y → x ≡ y
    → {z w : ℕ} → IsHalf (piece a (length a - 4) 4) z → IsHalf (piece b (length a - 4) 4) w → eqb z w ≡ same a b
halves-decide a b h l e u v q s t =
    let front = tell a b 0 4 u.is v.is (u.four ∙ sym v.four) u.bytes v.bytes q in
    decide a b (length a - 4) 4 s.is t.is (s.four ∙ sym t.four) s.bytes t.bytes (omega arith) (omega arith) 4 (omega arith) front
