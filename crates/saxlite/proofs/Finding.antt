-- Laws of finding where markup ends: searches, positions one by one, and scans for one byte.
use Rattle.std.proofs.Common.{Option, Some, None, ◌≡◌, refl, sym, ap, ◌∙◌, Bool, true, false, not, List, [], ◌∷◌, ◌++◌, ℕ, zero, suc, ◌+◌, ◌-◌, ◌%◌, ◌≤◌, ◌<◌, arith, add-zero, T, eqb, ltb, lit<, length, take, drop, get_or, drop_of_length-le, length-drop, drop-cons, drop-drop, rules, eq-eqb, ne_eqb, ltb-true, ltb-false}
use Rattle.texts.specs.Choice.{◌and◌}
use Rattle.texts.specs.Text.{ascii, starts_with}
use Rattle.texts.specs.Scan.{count_while, scan, until, is}
use Rattle.texts.proofs.Choosing.{by-test}
use Rattle.texts.proofs.Comparing.{starts-yes, starts-no, starts-append}
use Rattle.texts.proofs.Scanning.{Scanning, scan-start, byte-on, byte-stop, count_yes, count_no}
use Rattle.swar.specs.internal.Standing.{ShortText, StandsShort, Lacks}
use Rattle.swar.proofs.Standing.{power-some}
use Rattle.swar.proofs.Pairing.{lacks-start}
use Rattle.tags.specs.Find.{find_from}
use Rattle.tags.proofs.Searching.{byte-stands, find-here, find_none, search-start, search-on, found_from, found_inside, found-past}
use Rattle.saxlite.specs.internal.Passing.{Stands, FoundAt, FirstAt, EndsAt}
use Rattle.saxlite.proofs.Integers.{comment-begins, short-comment-end, short-instruction-end, short-declaration-end}

-- ---- a search goes on where the needle does not stand

pass-one : (n doc : List ℕ) (i : ℕ) → starts_with n (drop i doc) ≡ false → find_from n doc (i + 1) ≡ find_from n doc i
pass-one n doc i f =
    by-test (ltb i (length doc))
    (λ t. (search-on {n = n} {doc = doc} {from = i} {i = i} search-start refl (ltb-true i (length doc) t) f).rest)
    (λ g. let h : length doc ≤ i = ltb-false i (length doc) g in
    let k : length doc ≤ i + 1 = omega arith in
    let e : starts_with n [] ≡ false = rw (drop_of_length-le doc h) at f in
    rw (drop_of_length-le doc h, drop_of_length-le doc k) (find_none n (i + 1) e ∙ sym (find_none n i e)))

pass-many : (n doc : List ℕ) (i k : ℕ) → ((j : ℕ) → i ≤ j → j < i + k → starts_with n (drop j doc) ≡ false) → find_from n doc (i + k) ≡ find_from n doc i
pass-many n doc i zero f = rw (add-zero i)
pass-many n doc i (suc k) f =
    let z : i + suc k ≡ i + k + 1 = omega arith in
    ap (find_from n doc) z ∙ pass-one n doc (i + k) (f (i + k) (omega arith) (omega arith)) ∙ pass-many n doc i k (λ j h l. f j h (omega arith))

pub lacks-found : {n doc : List ℕ} {from i r : ℕ} → Lacks n doc from i → FoundAt n doc i r → FoundAt n doc from r
lacks-found {n} {doc} {from} {i} l f =
    let z : from + (i - from) ≡ i = omega (arith, l.forward) in
    let e : find_from n doc i ≡ find_from n doc from = ap (find_from n doc) (sym z) ∙ pass-many n doc from (i - from) (λ j a b. l.none j a (omega arith)) in
    record { is = λ h. sym e ∙ f.is h; none = λ h. sym e ∙ f.none h }

-- ---- what was found

-- a text of some bytes is found within the document
occurs-within : (n doc : List ℕ) (from i : ℕ) → 0 < length n → find_from n doc from ≡ Some i → i < length doc
occurs-within n doc from i p e =
    by-test (ltb (length doc) from)
    (λ t. absurd (omega (arith, found_from n doc from i e, found-past n doc from i e (ltb-true (length doc) from t))))
    (λ g. omega (arith, found_inside n doc from i e (ltb-false (length doc) from g)))

module _ (n doc : List ℕ) (from : ℕ) {o : Option ℕ} (e : o ≡ find_from n doc from) where
  pub occurs-found : 0 < length n → {i : ℕ} → o ≡ Some i → FoundAt n doc from i
  occurs-found p {i} f = record { is = λ h. sym e ∙ f; none = λ h. absurd (omega (arith, occurs-within n doc from i p (sym e ∙ f))) }

  pub nowhere-found : o ≡ None → FoundAt n doc from (length doc)
  nowhere-found f = record { is = λ h. absurd (omega arith); none = λ h. sym e ∙ f }

here_found : (n doc : List ℕ) (from : ℕ) → from < length doc → starts_with n (drop from doc) ≡ true → FoundAt n doc from from
here_found n doc from l t = record { is = λ h. find-here n (drop from doc) from t; none = λ h. absurd (omega arith) }

pub end-from : {n doc : List ℕ} {from end : ℕ} → FoundAt n doc from end → end < length doc → from ≤ end
end-from {n} {doc} {from} {end} f h = found_from n doc from end (f.is h)

-- ---- positions one by one

pub short-stands : {n doc : List ℕ} {i modulus front : ℕ} {b : Bool} → StandsShort doc i modulus front b → ShortText n modulus front → Stands n doc i b
short-stands {n} s t = record { is = sym (s.is n t) }

-- where it stands at no position before, it is found
pub lacks-here : {n doc : List ℕ} {from i : ℕ} → Lacks n doc from i → Stands n doc i true → i < length doc → FoundAt n doc from i
lacks-here {n} {doc} {from} {i} l t h = lacks-found l (here_found n doc i h t.is)

-- up to four positions at which it does not stand
module _ {n doc : List ℕ} {from : ℕ} where
  next : {i j : ℕ} → Lacks n doc from i → Stands n doc i false → j ≡ i + 1 → Lacks n doc from j
  next {i} l f e =
      record {
        forward = omega (arith, l.forward);
        none = λ k a b. by-test (ltb k i)
            (λ t. l.none k a (ltb-true k i t))
            (λ g. let z : k ≡ i = omega (arith, ltb-false k i g) in rw z f.is);
      }

  module _ {i : ℕ} (l : Lacks n doc from i) (a : Stands n doc i false) where
    pub lacks-one : Lacks n doc from (i + 1)
    lacks-one = next l a refl

    module _ (b : Stands n doc (i + 1) false) where
      pub lacks-two : Lacks n doc from (i + 2)
      lacks-two = next lacks-one b (omega arith)

      module _ (c : Stands n doc (i + 2) false) where
        pub lacks-three : Lacks n doc from (i + 3)
        lacks-three = next lacks-two c (omega arith)

        pub lacks-four : Stands n doc (i + 3) false → Lacks n doc from (i + 4)
        lacks-four d = next lacks-three d (omega arith)

-- what the loop over the first positions keeps: the needle stands nowhere so far, a multiple of
-- four is left to `stop`, and behind `stop` there is room for a word
abbrev pub Nearing : (n doc : List ℕ) (from stop i : ℕ) → Type 0
Nearing n doc from stop i = Lacks n doc from i × ((stop - i) % 4 ≡ 0) × (stop + 8 ≤ length doc)

-- ---- two bytes

byte-starts : (y b : ℕ) (u : List ℕ) → starts_with (y ∷ []) (b ∷ u) ≡ eqb b y
unfolding starts_with
byte-starts y b u = by-test (eqb b y) (λ t. starts-yes y b [] u t ∙ sym t) (λ f. starts-no y b [] u f ∙ sym f)

module _ {x y : ℕ} {doc : List ℕ} {i : ℕ} (h : i + 2 ≤ length doc) where
  pub pair-yes : get_or doc i 0 ≡ x → Stands (x ∷ y ∷ []) doc i (eqb (get_or doc (i + 1) 0) y)
  pair-yes e =
      let z : suc i ≡ i + 1 = omega arith in
      let t : eqb (get_or doc i 0) x ≡ true = eq-eqb (get_or doc i 0) x e in
      record {
        is = rw (drop-cons doc i 0 (omega arith)) (starts-yes x (get_or doc i 0) (y ∷ []) (drop (suc i) doc) t)
            ∙ ap (λ (k : ℕ). starts_with (y ∷ []) (drop k doc)) z
            ∙ rw (drop-cons doc (i + 1) 0 (omega arith)) (byte-starts y (get_or doc (i + 1) 0) (drop (suc (i + 1)) doc));
      }

  pub pair-no : (get_or doc i 0 ≡ x → ⊥) → Stands (x ∷ y ∷ []) doc i false
  pair-no f =
      record {
        is = rw (drop-cons doc i 0 (omega arith)) (starts-no x (get_or doc i 0) (y ∷ []) (drop (suc i) doc) (ne_eqb (get_or doc i 0) x f));
      }

-- ---- a scan for one byte

-- it does not stand before the first position of a byte, and there it does
module _ (x : ℕ) where
  unmet : (s : List ℕ) (m : ℕ) → m < count_while (until (is x)) s → starts_with (x ∷ []) (drop m s) ≡ false
  unmet [] m h = absurd (omega arith)
  unmet (b ∷ s) zero h =
      by-test (eqb b x)
      (λ t. absurd (omega (arith, count_no (until (is x)) b s (ap not t))))
      (λ f. starts-no x b [] s f)
  unmet (b ∷ s) (suc m) h =
      by-test (eqb b x)
      (λ t. absurd (omega (arith, count_no (until (is x)) b s (ap not t))))
      (λ f. unmet s m (omega (arith, count_yes (until (is x)) b s (ap not f))))

  met : (s : List ℕ) → count_while (until (is x)) s < length s → starts_with (x ∷ []) (drop (count_while (until (is x)) s) s) ≡ true
  unfolding starts_with
  met [] h = absurd (omega arith)
  met (b ∷ s) h =
      by-test (eqb b x)
      (λ t. rw (count_no (until (is x)) b s (ap not t)) (starts-yes x b [] s t))
      (λ f. rw (count_yes (until (is x)) b s (ap not f)) (met s (omega (arith, count_yes (until (is x)) b s (ap not f)))))

module _ (x : ℕ) (doc : List ℕ) (from : ℕ) {due : ℕ} (e : due ≡ scan (until (is x)) doc from) where
  scan-lacks : Lacks (x ∷ []) doc from due
  scan-lacks =
      record {
        forward = omega (arith, e);
        none = λ k a b.
            let z : from + (k - from) ≡ k = omega (arith, a) in
            ap (λ (j : ℕ). starts_with (x ∷ []) (drop j doc)) (sym z)
            ∙ ap (starts_with (x ∷ [])) (sym (drop-drop (k - from) from doc))
            ∙ unmet x (drop from doc) (k - from) (omega (arith, e));
      }

  scan-stands : due < length doc → starts_with (x ∷ []) (drop due doc) ≡ true
  scan-stands h =
      ap (λ (j : ℕ). starts_with (x ∷ []) (drop j doc)) e
      ∙ ap (starts_with (x ∷ [])) (sym (drop-drop (count_while (until (is x)) (drop from doc)) from doc))
      ∙ met x (drop from doc) (omega (arith, e, length-drop from doc))

  pub scan-found : FoundAt (x ∷ []) doc from due
  unfolding starts_with
  scan-found =
      lacks-found scan-lacks
      (record {
        is = λ h. find-here (x ∷ []) (drop due doc) due (scan-stands h);
        none = λ h. rw (drop_of_length-le doc h) (find_none (x ∷ []) due refl);
      })

-- ---- by the last byte

-- a text in two parts
parts : (w : List ℕ) (x : ℕ) (doc : List ℕ) (k : ℕ) → starts_with (w ++ (x ∷ [])) (drop k doc) ≡ (starts_with w (drop k doc) and starts_with (x ∷ []) (drop (k + length w) doc))
parts w x doc k = starts-append w (x ∷ []) (drop k doc) ∙ ap (λ (u : List ℕ). starts_with w (drop k doc) and starts_with (x ∷ []) u) (drop-drop (length w) k doc)

-- `due` is the first position of the byte that ends the needle, from where it may stand
module _ (w : List ℕ) (x : ℕ) (doc : List ℕ) (from : ℕ) {due : ℕ} (e : due ≡ scan (until (is x)) doc (from + length w)) where
  due-lacks : Lacks (w ++ (x ∷ [])) doc from (due - length w)
  due-lacks =
      record {
        forward = omega (arith, e);
        none = λ k a b.
            let f : starts_with (x ∷ []) (drop (k + length w) doc) ≡ false = (scan-lacks x doc (from + length w) e).none (k + length w) (omega arith) (omega arith) in
            parts w x doc k ∙ by-test (starts_with w (drop k doc)) (λ t. rw (t, f)) (λ g. rw g);
      }

  due-stands : due < length doc → starts_with w (drop (due - length w) doc) ≡ true → starts_with (w ++ (x ∷ [])) (drop (due - length w) doc) ≡ true
  due-stands h t =
      let z : due - length w + length w ≡ due = omega (arith, e) in
      let f : starts_with (x ∷ []) (drop (due - length w + length w) doc) ≡ true = rw z (scan-stands x doc (from + length w) e h) in
      parts w x doc (due - length w) ∙ rw (t, f)

  due-here : due < length doc → starts_with w (drop (due - length w) doc) ≡ true → FoundAt (w ++ (x ∷ [])) doc from (due - length w)
  due-here h t = lacks-here due-lacks (record { is = due-stands h t }) (omega (arith, h))

  due-later : {r : ℕ} → FoundAt (w ++ (x ∷ [])) doc (due - length w) r → FoundAt (w ++ (x ∷ [])) doc from r
  due-later f = lacks-found due-lacks f

-- ---- an end that was found, or was not

some-same : {i j : ℕ} → Some i ≡ Some j → i ≡ j
some-same e = cc

some-none : {i : ℕ} → None ≡ Some i → ⊥
some-none e = let z : ◌≡◌ {A = ℕ} 0 1 = cc in omega arith

module _ {x : ℕ} {doc : List ℕ} {at : ℕ} where
  pub first-some : {i : ℕ} → i ≡ scan (until (is x)) doc at → i < length doc → FirstAt x doc at (Some i)
  first-some e h = record { is = λ s. (sym (some-same s) ∙ e, omega (arith, some-same s)) }

  pub first-none : FirstAt x doc at None
  first-none = record { is = λ s. absurd (some-none s) }

  pub first-within : {o : Option ℕ} → FirstAt x doc at o → {i : ℕ} → o ≡ Some i → (at ≤ i) × (i < length doc)
  first-within f s = let g = f.is s in (omega (arith, g.0), g.1)

pub first-rest : (x : ℕ) (doc : List ℕ) (at i : ℕ) → Scanning (until (is x)) doc at i → {r : ℕ} → r ≡ scan (until (is x)) doc i → r ≡ scan (until (is x)) doc at
first-rest x doc at i inv e = e ∙ inv.rest

module _ {needle doc : List ℕ} {from : ℕ} where
  ends-some : {i : ℕ} → FoundAt needle doc from i → i < length doc → EndsAt needle doc from (Some i)
  ends-some {i} f h =
      record { is = λ s. let g : (j : ℕ) → i ≡ j → FoundAt needle doc from j × (j < length doc) = λ j e. (rw (← e) f, omega (arith, e)) in g _ (some-same s) }

  pub ends-none : EndsAt needle doc from None
  ends-none = record { is = λ s. absurd (some-none s) }

  pub ends-within : {o : Option ℕ} → EndsAt needle doc from o → {i : ℕ} → o ≡ Some i → (from ≤ i) × (i < length doc)
  ends-within f {i} s = let g = f.is s in (found_from needle doc from i (g.0.is g.1), g.1)

  -- the first position by itself
  pub ends-here : Stands needle doc from true → from < length doc → EndsAt needle doc from (Some from)
  ends-here t h = ends-some (lacks-here lacks-start t h) h

  pub ends-later : Stands needle doc from false → {o : Option ℕ} → EndsAt needle doc (from + 1) o → EndsAt needle doc from o
  ends-later t f = record { is = λ s. let g = f.is s in (lacks-found (lacks-one lacks-start t) g.0, g.1) }

-- a comment's end, by its last byte
module _ {doc : List ℕ} {from : ℕ} (h : from + 3 ≤ length doc) where
  pub dashes-stand : get_or doc (from + 2) 0 ≡ 62 → {b : Bool} → Stands (45 ∷ 45 ∷ []) doc from b → Stands (ascii "-->") doc from b
  dashes-stand e {b} s =
      let t : starts_with (62 ∷ []) (drop (from + 2) doc) ≡ true = byte-stands 62 doc (from + 2) (omega arith) e in
      record { is = parts (ascii "--") 62 doc from ∙ by-test b (λ y. rw (t, s.is, y)) (λ n. rw (t, s.is, n)) }

  pub dashes-not : (get_or doc (from + 2) 0 ≡ 62 → ⊥) → Stands (ascii "-->") doc from false
  dashes-not f =
      let t : starts_with (62 ∷ []) (drop (from + 2) doc) ≡ false =
      rw (drop-cons doc (from + 2) 0 (omega arith)) (starts-no 62 (get_or doc (from + 2) 0) [] (drop (suc (from + 2)) doc) (ne_eqb (get_or doc (from + 2) 0) 62 f))
      in
      record { is = parts (ascii "--") 62 doc from ∙ by-test (starts_with (ascii "--") (drop from doc)) (λ y. rw (y, t)) (λ n. rw n) }

module _ {doc : List ℕ} {from : ℕ} {o : Option ℕ} {due : ℕ} where
  module _ (f : FirstAt 62 doc (from + 2) o) (s : o ≡ Some due) where
    pub comment-ends : Stands (45 ∷ 45 ∷ []) doc (due - 2) true → EndsAt (ascii "-->") doc from (Some (due - 2))
    comment-ends t = let g = f.is s in ends-some (due-here (ascii "--") 62 doc from g.0 g.1 t.is) (omega (arith, g.1))

    pub comment-later : {far : ℕ} → FoundAt (ascii "-->") doc (due - 2) far → far < length doc → EndsAt (ascii "-->") doc from (Some far)
    comment-later l h = let g = f.is s in ends-some (due-later (ascii "--") 62 doc from g.0 l) h

  module _ (f : FirstAt 62 doc (from + 1) o) (s : o ≡ Some due) where
    pub instruction-ends : get_or doc (due - 1) 0 ≡ 63 → EndsAt (ascii "?>") doc from (Some (due - 1))
    instruction-ends t =
        let g = f.is s in
        ends-some (due-here (ascii "?") 62 doc from g.0 g.1 (byte-stands 63 doc (due - 1) (omega (arith, g.1)) t)) (omega (arith, g.1))

    pub instruction-later : {far : ℕ} → FoundAt (ascii "?>") doc (due - 1) far → far < length doc → EndsAt (ascii "?>") doc from (Some far)
    instruction-later l h = let g = f.is s in ends-some (due-later (ascii "?") 62 doc from g.0 l) h

-- what the loop over the first positions keeps
abbrev pub Nearby : (doc : List ℕ) (at stop i : ℕ) → Type 0
Nearby doc at stop i = Scanning (until (is 62)) doc at i × ((stop - i) % 4 ≡ 0) × (stop + 8 ≤ length doc)

pub ruleset finding = (ends-here, ends-later, dashes-stand, dashes-not, comment-begins, scan-start, byte-on, byte-stop, first-some, first-none, first-rest, ends-none, lacks-start, lacks-here, comment-ends, comment-later, instruction-ends, instruction-later, pair-yes, pair-no, lacks-one, lacks-two, lacks-three, lacks-four, lacks-found, occurs-found, nowhere-found, short-stands, scan-found, short-comment-end, short-instruction-end, short-declaration-end, power-some, rules)
