-- Laws of names.
use Rattle.std.proofs.Common.{◌≡◌, sym, ap, Bool, true, false, List, [], ◌∷◌, ℕ, zero, suc, ◌+◌, ◌-◌, ◌≤◌, ◌<◌, ◌^◌, arith, ltb, length, take, drop, length-take, length-drop, take_all, drop-drop, Fits, w64, lt-ltb, le-ltb, ltb-true}
use native.Mathlib.Nat.{sub-zero, zero-sub, suc-sub-suc}
use lib.Seq.{take-nil}
use Rattle.texts.specs.Text.{ascii, piece, same, starts_with}
use Rattle.texts.specs.Scan.{scan, until, is}
use Rattle.texts.proofs.Choosing.{by-test, pick_yes, pick_no}
use Rattle.tags.specs.Names.{prefix_length, local_name, is_xmlns}

-- a piece without its first bytes
drop-take : (k n : ℕ) (s : List ℕ) → drop k (take n s) ≡ take (n - k) (drop k s)
drop-take zero n s = rw sub-zero
drop-take (suc k) zero s = sym (rw zero-sub)
drop-take (suc k) (suc n) [] = sym (take-nil (suc n - suc k))
drop-take (suc k) (suc n) (x ∷ xs) = rw suc-sub-suc (drop-take k n xs)

drop-piece : (s : List ℕ) (a n k : ℕ) → drop k (piece s a n) ≡ piece s (a + k) (n - k)
drop-piece s a n k = rw (drop-take, drop-drop)

-- ---- the prefix

module _ (name : List ℕ) {colon : ℕ} (e : colon ≡ scan (until (is 58)) name 0) where
  pub prefix-some : colon < length name → colon + 1 ≡ prefix_length name
  unfolding prefix_length
  prefix-some h = rw (← e, pick_yes (ltb colon (length name)) (colon + 1) 0 (lt-ltb _ _ h))

  pub prefix-none : length name ≤ colon → 0 ≡ prefix_length name
  unfolding prefix_length
  prefix-none h = rw (← e, pick_no (ltb colon (length name)) (colon + 1) 0 (le-ltb _ _ h))

-- a name loses at most all of it
pub prefix-within : (name : List ℕ) → prefix_length name ≤ length name
unfolding prefix_length
prefix-within name =
    let colon = scan (until (is 58)) name 0 in
    by-test (ltb colon (length name))
    (λ t. rw (pick_yes (ltb colon (length name)) (colon + 1) 0 t) (omega (arith, ltb-true colon (length name) t)))
    (λ f. rw (pick_no (ltb colon (length name)) (colon + 1) 0 f) (omega arith))

-- w is n bytes of the document from a on, and prefix what it loses
module _ (doc : List ℕ) (a n : ℕ) {w : List ℕ} (e : w ≡ piece doc a n) {prefix : ℕ} (p : prefix ≡ prefix_length w) where
  pub local-within : prefix ≤ n
  local-within =
      let l : prefix ≤ length w = rw p (prefix-within w) in
      omega (arith, ap length e, length-take n (drop a doc))

  pub local-fits : a ≤ length doc → length doc < 2 ^ 64 → Fits w64 (a + prefix)
  local-fits h k =
      let l : prefix ≤ length w = rw p (prefix-within w) in
      omega (arith, ap length e, length-take n (drop a doc), length-drop a doc)

  -- the local name, as a piece of w and of the document
  pub local-of : piece w prefix n ≡ local_name (piece doc a n)
  local-of =
      let l : length (drop prefix w) ≤ n = omega (arith, length-drop prefix w, ap length e, length-take n (drop a doc)) in
      rw (take_all n (drop prefix w) l, p, e)

-- the local name of a range is the range that is left
pub local-range : (doc : List ℕ) (a n : ℕ) → piece doc (a + prefix_length (piece doc a n)) (n - prefix_length (piece doc a n)) ≡ local_name (piece doc a n)
local-range doc a n = sym (drop-piece doc a n (prefix_length (piece doc a n)))

-- ---- xmlns; b and c are the results of the comparisons

module _ (name : List ℕ) {b : Bool} (e : b ≡ same name (ascii "xmlns")) where
  pub xmlns-whole : b ≡ true → true ≡ is_xmlns name
  unfolding is_xmlns
  xmlns-whole t = rw (← e, t)

  pub xmlns-front : b ≡ false → {c : Bool} → c ≡ starts_with (ascii "xmlns:") name → c ≡ is_xmlns name
  unfolding is_xmlns
  xmlns-front f g = rw (← e, f) g
