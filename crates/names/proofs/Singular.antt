-- Laws of the singular, by what its tests say of a name.
use Rattle.std.proofs.Common.{◌≡◌, refl, sym, ap, ◌∙◌, Bool, true, false, List, [], ◌∷◌, ◌++◌, ℕ, suc, ◌-◌, ◌≤◌, ◌<◌, arith, ltb, length, get_or, take, drop, take_all, length-take-le, ltb-true}
use Rattle.texts.proofs.Choosing.{both_true}
use Rattle.printing.proofs.Writing.{writing}
use Rattle.classes.specs.Letters.{raised}
use Rattle.names.specs.Conversions.{ends_in_ies, ends_in_s, singular, capitalized, singular_pascal}

-- ---- what the tests need

ies-more : (s : List ℕ) → ends_in_ies s ≡ true → 3 < length s
unfolding ends_in_ies
ies-more s v = ltb-true 3 (length s) (both_true (ltb 3 (length s)) _ v).0

pub ies-least : (s : List ℕ) {t : Bool} → t ≡ ends_in_ies s → t ≡ true → 3 ≤ length s
ies-least s e v = omega (arith, ies-more s (sym e ∙ v))

pub s-least : (s : List ℕ) → ends_in_s s ≡ true → 1 ≤ length s
unfolding ends_in_s
s-least s v = omega (arith, ltb-true 1 (length s) (both_true (ltb 1 (length s)) _ v).0)

-- ---- the first letter

pub capitalized-none : (s : List ℕ) → length s ≡ 0 → capitalized s ≡ []
unfolding capitalized
capitalized-none [] h = refl
capitalized-none (x ∷ s) h = absurd (omega arith)

pub capitalized-some : (s : List ℕ) → 0 < length s → capitalized s ≡ raised (get_or s 0 0) ∷ take (length s - 1) (drop 1 s)
unfolding capitalized
capitalized-some [] h = absurd (omega arith)
capitalized-some (x ∷ s) h = ap (λ t. raised x ∷ t) (sym (take_all (suc (length s) - 1) s (omega arith)))

capitalized-append : (a b : List ℕ) → 0 < length a → capitalized (a ++ b) ≡ capitalized a ++ b
unfolding capitalized
capitalized-append [] b h = absurd (omega arith)
capitalized-append (x ∷ a) b h = refl

-- ---- the three cases

module _ (s : List ℕ) where
  pub singular-ies : ends_in_ies s ≡ true → singular_pascal s ≡ capitalized (take (length s - 3) s) ++ (121 ∷ [])
  unfolding singular_pascal singular
  singular-ies v =
      let h : 3 < length s = ies-more s v in
      let l : 0 < length (take (length s - 3) s) = rw (length-take-le (length s - 3) s (omega arith)) (omega arith) in
      rw v (capitalized-append (take (length s - 3) s) (121 ∷ []) l)

  pub singular-s : ends_in_ies s ≡ false → ends_in_s s ≡ true → singular_pascal s ≡ capitalized (take (length s - 1) s)
  unfolding singular_pascal singular
  singular-s v u = rw (v, u)

  pub singular-same : ends_in_ies s ≡ false → ends_in_s s ≡ false → singular_pascal s ≡ capitalized s
  unfolding singular_pascal singular
  singular-same v u = rw (v, u)

pub ruleset laws = (ies-least, s-least, capitalized-none, capitalized-some, singular-ies, singular-s, singular-same, writing)
