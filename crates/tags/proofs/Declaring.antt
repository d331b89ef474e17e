-- Laws of raw names that declare a namespace, compared as one word.
use Rattle.std.proofs.Common.{◌≡◌, refl, sym, ap, ◌∙◌, Bool, true, false, List, [], ◌∷◌, ◌++◌, ℕ, zero, suc, ◌+◌, ◌-◌, ◌≤◌, ◌<◌, arith, rules, eqb, lit<, length, take, drop, get_or, length-take, drop-cons, drop-drop}
use Rattle.texts.specs.declared.Range.{Range}
use Rattle.texts.specs.Text.{ascii, piece, same, starts_with}
use Rattle.texts.specs.Scan.{count_while, scan, until}
use Rattle.texts.proofs.Scanning.{scan-stop}
use Rattle.texts.proofs.Choosing.{by-test, both_true}
use Rattle.texts.proofs.Comparing.{same-equal, same-lengths, starts-yes, starts-no, starts-append, starts-long, front-is}
use Rattle.swar.specs.Word.{word_of}
use Rattle.swar.specs.internal.Standing.{ShortText, StandsShort}
use Rattle.classes.specs.Class.{is_space, is_tag_name_end, is_attribute_name_end}
use Rattle.tags.specs.declared.noting.Notes.{Notes}
use Rattle.tags.specs.Names.{is_xmlns}
use Rattle.elements.specs.Keys.{Keys}
use Rattle.tags.specs.internal.Noting.{NotedMore}
use Rattle.tags.proofs.Knowing.{starts-split}
use Rattle.tags.proofs.Looking.{named-xmlns}

-- what stands at the front of a piece stands at the front of the whole
starts-whole : (t : List ℕ) (n : ℕ) (s : List ℕ) → starts_with t (take n s) ≡ true → starts_with t s ≡ true
unfolding starts_with
starts-whole [] n s e = refl
starts-whole (x ∷ t) zero s e = absurd (let z : ◌≡◌ {A = ℕ} 0 1 = cc in omega arith)
starts-whole (x ∷ t) (suc n) [] e = e
starts-whole (x ∷ t) (suc n) (y ∷ s) e =
    by-test (eqb y x)
    (λ q. starts-yes x y t s q ∙ starts-whole t n s (sym (starts-yes x y t (take n s) q) ∙ e))
    (λ q. absurd (let z : ◌≡◌ {A = ℕ} 0 1 = cc (starts-no x y t (take n s) q) in omega arith))

starts-itself : starts_with (ascii "xmlns") (ascii "xmlns") ≡ true
unfolding starts_with
starts-itself = refl

text-xmlns : ShortText (ascii "xmlns") 1099511627776 495773838712
unfolding word_of
text-xmlns = record { few = lit< tt; power = refl; number = refl; bytes = tt }

-- ---- a raw name of n bytes

-- by the byte behind "xmlns"
by-colon : (x : ℕ) (r : List ℕ) → eqb x 58 ≡ is_xmlns (120 ∷ 109 ∷ 108 ∷ 110 ∷ 115 ∷ x ∷ r)
unfolding is_xmlns same starts_with
by-colon x r = by-test (eqb x 58) (λ t. t ∙ sym (starts-yes 58 x [] r t)) (λ f. f ∙ sym (starts-no 58 x [] r f))

module _ (doc : List ℕ) (raw n : ℕ) where
  pub xmlns-short : n < 5 → false ≡ is_xmlns (piece doc raw n)
  unfolding is_xmlns
  xmlns-short h =
      let l : length (piece doc raw n) < 5 = simp length-take (omega arith) in
      rw (← same-lengths (piece doc raw n) (ascii "xmlns") (λ e. omega arith)) (starts-long (ascii "xmlns:") (piece doc raw n) 0 (omega arith))

  -- b is whether "xmlns" stands there
  module _ {b : Bool} (s : StandsShort doc raw 1099511627776 495773838712 b) where
    pub xmlns-bare : b ≡ true → n ≡ 5 → true ≡ is_xmlns (piece doc raw n)
    unfolding is_xmlns same
    xmlns-bare t e = rw e (ap is_xmlns (sym (front-is (ascii "xmlns") (drop raw doc) (sym (s.is (ascii "xmlns") text-xmlns) ∙ t))))

    pub xmlns-colon : b ≡ true → 5 ≤ n → (n ≡ 5 → ⊥) → raw + 5 < length doc → eqb (get_or doc (raw + 5) 0) 58 ≡ is_xmlns (piece doc raw n)
    xmlns-colon t l m h =
        let k : n ≡ suc (suc (suc (suc (suc (suc (n - 6)))))) = omega arith in
        let d = starts-split (ascii "xmlns") (drop raw doc) (sym (s.is (ascii "xmlns") text-xmlns) ∙ t) in
        let r : drop 5 (drop raw doc) ≡ get_or doc (raw + 5) 0 ∷ drop (suc (raw + 5)) doc = drop-drop 5 raw doc ∙ drop-cons doc (raw + 5) 0 h in
        let w : piece doc raw n ≡ 120 ∷ 109 ∷ 108 ∷ 110 ∷ 115 ∷ get_or doc (raw + 5) 0 ∷ take (n - 6) (drop (suc (raw + 5)) doc) =
        ap (λ m. take m (drop raw doc)) k ∙ ap (take (suc (suc (suc (suc (suc (suc (n - 6)))))))) (d ∙ ap (λ l. ascii "xmlns" ++ l) r) in
        by-colon (get_or doc (raw + 5) 0) (take (n - 6) (drop (suc (raw + 5)) doc)) ∙ ap is_xmlns (sym w)

    pub xmlns-not : b ≡ false → false ≡ is_xmlns (piece doc raw n)
    unfolding is_xmlns
    xmlns-not f =
        by-test (same (piece doc raw n) (ascii "xmlns"))
        (λ t. absurd (front (rw (same-equal (piece doc raw n) (ascii "xmlns") t) starts-itself)))
        (λ g.
        by-test (starts_with (ascii "xmlns:") (piece doc raw n))
        (λ t. absurd (front (both_true _ _ (sym (starts-append (ascii "xmlns") (ascii ":") (piece doc raw n)) ∙ t)).0))
        (λ h. rw (g, h)))
      where
        front : starts_with (ascii "xmlns") (piece doc raw n) ≡ true → ⊥
        front t = let z : ◌≡◌ {A = ℕ} 0 1 = cc (starts-whole (ascii "xmlns") n (drop raw doc) t, s.is (ascii "xmlns") text-xmlns) in omega arith

  -- any other way
  pub xmlns-part : {w : List ℕ} → w ≡ piece doc raw n → {b : Bool} → b ≡ is_xmlns w → b ≡ is_xmlns (piece doc raw n)
  xmlns-part e x = x ∙ ap is_xmlns e

-- ---- where the name ends

xmlns-past : (doc : List ℕ) (at : ℕ) {b : Bool} → StandsShort doc at 1099511627776 495773838712 b → b ≡ true → scan (until is_attribute_name_end) doc (at + 5) ≡ scan (until is_attribute_name_end) doc at
unfolding is_attribute_name_end is_tag_name_end is_space
xmlns-past doc at s t =
    let d = starts-split (ascii "xmlns") (drop at doc) (sym (s.is (ascii "xmlns") text-xmlns) ∙ t) in
    let c : count_while (until is_attribute_name_end) (drop at doc) ≡ 5 + count_while (until is_attribute_name_end) (drop (at + 5) doc) = ap (count_while (until is_attribute_name_end)) d ∙ rw (drop-drop 5 at doc) (omega arith) in
    omega (arith, c)

module _ (doc : List ℕ) (at : ℕ) {b : Bool} (s : StandsShort doc at 1099511627776 495773838712 b) (t : b ≡ true) where
  pub xmlns-equals : 8 ≤ length doc → at ≤ length doc - 8 → get_or doc (at + 5) 0 ≡ 61 → at + 5 ≡ scan (until is_attribute_name_end) doc at
  unfolding is_attribute_name_end is_tag_name_end is_space
  xmlns-equals l h c = scan-stop (record { rest = xmlns-past doc at s t }) (omega arith) refl (rw c refl)

  pub xmlns-on : {r : ℕ} → r ≡ scan (until is_attribute_name_end) doc (at + 5) → r ≡ scan (until is_attribute_name_end) doc at
  xmlns-on e = e ∙ xmlns-past doc at s t

-- ---- what is noted

module _ (raw : List ℕ) {b : Bool} (x : b ≡ is_xmlns raw) where
  pub declares-not : b ≡ false → is_xmlns raw ≡ false
  declares-not f = sym x ∙ f

pub declares-more : (raw : List ℕ) (value : Range) (k : Keys) (was : Notes) {b : Bool} → b ≡ is_xmlns raw → b ≡ true → NotedMore raw value k was was
declares-more raw value k was x t =
    record {
      number = named-xmlns raw value k.number was.number was.number_len x t;
      name = named-xmlns raw value k.name was.name was.name_len x t;
      second = named-xmlns raw value k.second was.second was.second_len x t;
      encoding = named-xmlns raw value k.encoding was.encoding was.encoding_len x t;
    }

pub ruleset declaring = (xmlns-short, xmlns-bare, xmlns-colon, xmlns-not, xmlns-part, xmlns-equals, xmlns-on, declares-not, declares-more, rules)
