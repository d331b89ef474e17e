-- Laws of known attributes: the fast path reads the part that the general way reads.
use Rattle.refusals.specs.declared.Refusal.{Refusal}
use Rattle.std.proofs.Common.{Some, None, Result, ◌≡◌, refl, sym, ap, subst, ◌∙◌, Bool, true, false, not, List, [], ◌∷◌, ◌++◌, append_assoc, ℕ, zero, suc, ◌+◌, ◌-◌, ◌≤◌, ◌<◌, ◌^◌, add-zero, arith, T, eqb, ltb, length, take, drop, length-append, take-append-drop, drop-drop, Fits, w64, eqb-true}
use lib.Seq.{take-append_seam, drop-append_seam}
use borrow.Author.Tests.{eqb-false}
use Rattle.texts.specs.Choice.{◌and◌, ◌or◌}
use Rattle.texts.specs.Lists.{all}
use Rattle.texts.specs.declared.Range.{Range}
use Rattle.texts.specs.Text.{ascii, piece, same, starts_with}
use Rattle.texts.specs.Scan.{count_while, scan, until, is}
use Rattle.texts.proofs.Choosing.{by-test, pick-by, and_left, and_right}
use Rattle.texts.proofs.Comparing.{starts-no, front-is}
use Rattle.texts.proofs.Scanning.{count_yes, count_no}
use Rattle.classes.specs.Class.{is_space, is_tag_name_end, is_attribute_name_end}
use Rattle.tags.specs.declared.known.Known.{Known}
use Rattle.tags.specs.declared.part.TagPart.{TagPart}
use Rattle.tags.specs.Names.{is_xmlns}
use Rattle.tags.specs.Attributes.{quoted_at, tag_part_at}
use Rattle.tags.specs.internal.Known.{known_name, IsKnown, holds_to, Named, QuickAt}
use Rattle.tags.proofs.Searching.{stands-within}
use Rattle.tags.proofs.Parting.{value-double, attribute-valued, part-attribute}

-- ---- a test of 1 to n

pub up-each : (n : ℕ) (p : ℕ → Bool) → T (holds_to n p) → (k : ℕ) → 0 < k → k ≤ n → T (p k)
up-each zero p t k h l = absurd (omega arith)
up-each (suc n) p t k h l =
    by-test (eqb k (suc n))
    (λ e. rw (eqb-true k (suc n) e) (and_left (p (suc n)) (holds_to n p) t))
    (λ f. up-each n p (and_right (p (suc n)) (holds_to n p) t) k h (let n : k ≡ suc n → ⊥ = eqb-false k (suc n) f in omega arith))

-- ---- what stands at the front of a text

pub starts-split : (a s : List ℕ) → starts_with a s ≡ true → s ≡ a ++ drop (length a) s
starts-split a s t = sym (take-append-drop (length a) s) ∙ ap (λ x. x ++ drop (length a) s) (front-is a s t)

-- ---- a name in which nothing ends: no space, '>', '/' or '=', no colon, and no namespace

abbrev pub goes : ℕ → Bool
goes b = not (is_attribute_name_end b or eqb b 58)

abbrev pub plain_name : List ℕ → Bool
plain_name [] = false
plain_name (b ∷ s) = goes b and all goes s and not (is_xmlns (b ∷ s))

pub known-plain : (code : ℕ) → 0 < code → code < 18 → T (plain_name (known_name code))
unfolding is_attribute_name_end is_tag_name_end is_space all is_xmlns same starts_with
known-plain code h l = up-each 17 (λ k. plain_name (known_name k)) tt code h (omega arith)

module _ (b : ℕ) (t : T (goes b)) where
  goes-not : is_attribute_name_end b ≡ false
  goes-not = by-test (is_attribute_name_end b) (λ y. absurd (rw y at t)) (λ f. f)

  -- it is no byte that ends a name
  pub goes_other : (c : ℕ) → goes c ≡ false → eqb b c ≡ false
  goes_other c g = by-test (eqb b c) (λ y. absurd (subst T (ap goes (eqb-true b c y) ∙ g) t)) (λ f. f)

-- ---- the part that begins with such a name

-- bytes that pass, up to one that does not
pub count-to : (p q : ℕ → Bool) → ((b : ℕ) → T (q b) → p b ≡ true) → (n s : List ℕ) → T (all q n) → count_while p s ≡ 0 → count_while p (n ++ s) ≡ length n
unfolding all
count-to p q f [] s t z = z
count-to p q f (b ∷ n) s t z = count_yes p b (n ++ s) (f b (and_left (q b) (all q n) t)) ∙ ap suc (count-to p q f n s (and_right (q b) (all q n) t) z)

goes-count : (n r : List ℕ) → T (all goes n) → count_while (until is_attribute_name_end) (n ++ 61 ∷ r) ≡ length n
unfolding is_attribute_name_end is_tag_name_end is_space
goes-count n r t = count-to (until is_attribute_name_end) goes (λ b u. ap not (goes-not b u)) n (61 ∷ r) t (count_no (until is_attribute_name_end) 61 r refl)

pub goes-all : (n : List ℕ) → T (plain_name n) → T (all goes n)
unfolding all
goes-all [] t = tt
goes-all (b ∷ s) t = and_both (goes b) (all goes s) (and_left (goes b) _ t) (and_left (all goes s) (not (is_xmlns (b ∷ s))) (and_right (goes b) _ t))
  where
    and_both : (x y : Bool) → T x → T y → T (x and y)
    and_both true y t u = u
    and_both false y t u = t

-- no tag ends where it begins
goes-front : (n s : List ℕ) → T (plain_name n) → (starts_with (ascii ">") (n ++ s) ≡ false) × (starts_with (ascii "/>") (n ++ s) ≡ false)
unfolding is_attribute_name_end is_tag_name_end is_space
goes-front [] s t = absurd t
goes-front (b ∷ n) s t =
    let g = and_left (goes b) _ t in
    (starts-no 62 b [] (n ++ s) (goes_other b g 62 refl), starts-no 47 b (62 ∷ []) (n ++ s) (goes_other b g 47 refl))

module _ (doc : List ℕ) (at place : ℕ) {i : ℕ} (e : i ≡ scan is_space doc at) (n : List ℕ) (t : T (plain_name n)) (stands : starts_with (n ++ ascii "=\"") (drop i doc) ≡ true) where
  abbrev rest : List ℕ
  rest = drop (length (n ++ ascii "=\"")) (drop i doc)

  split : drop i doc ≡ n ++ 61 ∷ 34 ∷ rest
  split = starts-split (n ++ ascii "=\"") (drop i doc) stands ∙ append_assoc n (ascii "=\"") rest

  behind : drop (i + length n) doc ≡ 61 ∷ 34 ∷ rest
  behind = sym (drop-drop (length n) i doc) ∙ ap (drop (length n)) split ∙ drop-append_seam n (61 ∷ 34 ∷ rest)

  within : i + length n + 2 ≤ length doc
  within = omega (arith, stands-within (n ++ ascii "=\"") doc i stands (omega (arith, length-append n (ascii "=\""))), length-append n (ascii "=\""))

  ends : i + length n ≡ scan (until is_attribute_name_end) doc i
  ends = ap (λ k. i + k) (sym (ap (count_while (until is_attribute_name_end)) split ∙ goes-count n (34 ∷ rest) (goes-all n t)))

  -- r is what is read from the value's first byte on
  pub plain-part : {r : Result TagPart Refusal} → r ≡ quoted_at 34 doc (record { from = i; len = length n }) (i + length n + 2) place → r ≡ tag_part_at doc at place
  unfolding is_space starts_with
  plain-part {r} p =
      let k = i + length n in
      let f = goes-front n (61 ∷ 34 ∷ rest) t in
      let q : k ≡ scan is_space doc k = rw behind (sym (add-zero k)) in
      let b : drop (k + 1) doc ≡ 34 ∷ rest = sym (drop-drop 1 k doc) ∙ ap (drop 1) behind in
      let v : k + 1 ≡ scan is_space doc (k + 1) = rw b (sym (add-zero (k + 1))) in
      let l : k - i ≡ length n = omega arith in
      let d : i + length n + 2 ≡ k + 1 + 1 = omega arith in
      part-attribute doc at place e (omega (arith, within)) refl (ap (starts_with (ascii ">")) split ∙ f.0) refl (ap (starts_with (ascii "/>")) split ∙ f.1)
      (attribute-valued doc i place ends (λ z. plain-empty n t (omega arith)) q refl (rw behind refl) v
      (value-double doc (record { from = i; len = k - i }) (k + 1) place refl (rw b refl) (rw (l, ← d) p)))
    where
      plain-empty : (n : List ℕ) → T (plain_name n) → length n ≡ 0 → ⊥
      plain-empty [] t z = t
      plain-empty (b ∷ n) t z = omega arith

  pub plain-name : piece doc i (length n) ≡ n
  plain-name = ap (take (length n)) split ∙ take-append_seam n (61 ∷ 34 ∷ rest)

-- ---- the same for a known attribute

quoted-named : (doc : List ℕ) (code : ℕ) (name : Range) (value place : ℕ) → 0 < code → code < 18 → piece doc name.from name.len ≡ known_name code → Named doc code (quoted_at 34 doc name value place)
unfolding quoted_at
quoted-named doc code name value place g h e = pick-by (Named doc code) (ltb (scan (until (is 34)) doc value) (length doc)) (λ t. (g, h, e)) (λ f. tt)

module _ (doc : List ℕ) (at place : ℕ) {i : ℕ} (e : i ≡ scan is_space doc at) {k : Known} (known : IsKnown doc i k) where
  known_in : i + length (known_name k.code) + 2 ≤ length doc
  known_in = within doc at place e (known_name k.code) (known-plain k.code known.above known.below) known.stands

  quick-known : {r : Result TagPart Refusal} → r ≡ quoted_at 34 doc (record { from = i; len = length (known_name k.code) }) (i + length (known_name k.code) + 2) place → QuickAt doc at place (record { code = Some k.code; part = r })
  quick-known {r} p =
      let n = known_name k.code in
      let t = known-plain k.code known.above known.below in
      record {
        is = plain-part doc at place e n t known.stands p;
        named = λ c q. let z : k.code ≡ c = cc in rw (p, ← z) (quoted-named doc k.code (record { from = i; len = length n }) (i + length n + 2) place known.above known.below (plain-name doc at place e n t known.stands));
      }

-- any other part
pub other-quick : (doc : List ℕ) (at place : ℕ) {r : Result TagPart Refusal} → r ≡ tag_part_at doc at place → QuickAt doc at place (record { code = None; part = r })
other-quick doc at place e = record { is = e; named = λ c q. absurd (let z : ◌≡◌ {A = ℕ} 0 1 = cc in omega arith) }

-- ---- what stands behind one space

-- no space begins a name
name-first : (n s : List ℕ) → T (plain_name n) → count_while is_space (n ++ s) ≡ 0
unfolding is_attribute_name_end is_tag_name_end
name-first [] s t = absurd t
name-first (b ∷ n) s t = count_no is_space b (n ++ s) (by-test (is_space b) (λ y. absurd (rw y at (and_left (goes b) _ t))) (λ f. f))

-- a known attribute behind one space
module _ (doc : List ℕ) (at place : ℕ) {b : Bool} (e : b ≡ starts_with (ascii " ") (drop at doc)) (t : b ≡ true) {k : Known} (known : IsKnown doc (at + 1) k) where
  spaced : at + 1 ≡ scan is_space doc at
  unfolding is_space
  spaced =
      let n = known_name k.code in
      let p = known-plain k.code known.above known.below in
      let s : drop at doc ≡ 32 ∷ drop (at + 1) doc = starts-split (ascii " ") (drop at doc) (sym e ∙ t) ∙ ap (λ l. 32 ∷ l) (drop-drop 1 at doc) in
      let m : count_while is_space (drop (at + 1) doc) ≡ 0 = ap (count_while is_space) (starts-split (n ++ ascii "=\"") (drop (at + 1) doc) known.stands ∙ append_assoc n (ascii "=\"") _) ∙ name-first n _ p in
      ap (λ c. at + c) (sym (ap (count_while is_space) s ∙ count_yes is_space 32 (drop (at + 1) doc) refl ∙ ap suc m))

  pub spaced-fits : length doc < 2 ^ 64 → Fits w64 (at + k.skip)
  spaced-fits l = omega (arith, known.ahead, known_in doc at place spaced known)

  pub spaced-quick : {r : Result TagPart Refusal} → r ≡ quoted_at 34 doc (record { from = at + 1; len = k.skip - 3 }) (at + k.skip) place → QuickAt doc at place (record { code = Some k.code; part = r })
  spaced-quick p =
      let n = length (known_name k.code) in
      let l : k.skip - 3 ≡ n = omega (arith, known.ahead) in
      let v : at + k.skip ≡ at + 1 + n + 2 = omega (arith, known.ahead) in
      quick-known doc at place spaced known (rw (l, v) at p)

-- the name's length is what is left
pub known-less : {doc : List ℕ} {i : ℕ} {k : Known} → IsKnown doc i k → 3 ≤ k.skip
known-less known = omega (arith, known.ahead)
