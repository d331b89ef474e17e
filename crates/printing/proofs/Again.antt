-- Laws of printing once more a text that stands in the slice.
use Rattle.std.proofs.Common.{◌≡◌, refl, sym, ap, ◌∙◌, List, ◌++◌, ℕ, ◌+◌, ◌-◌, ◌≤◌, ◌<◌, arith, length, get_or, set, take, drop, length-take, get_or-take, get_or-drop, rules}
use lib.Seq.{sets}
use Rattle.texts.specs.Text.{piece}
use Rattle.texts.proofs.Pieces.{length-piece}
use Rattle.texts.proofs.Stores.{get_or-sets-below, take-sets, piece-stored, piece-below}
use Rattle.printing.specs.Printed.{last, past, skipped, laid, Printed}
use Rattle.printing.specs.internal.Standing.{Standing}
use Rattle.printing.proofs.Sequencing.{first_part, second-part, length-printed}
use Rattle.printing.proofs.Passing.{past-below, laid-sets, past-skipped, Copying, copying-start, copying-length, copying-within, copying-on, copying-end}

-- ---- the loop: i of the n bytes at `from` are copied

pub record Copied (out : List ℕ) (at from n : ℕ) (out' : List ℕ) (i : ℕ) : Type 0 where
  pub copying : Copying (piece out from n) out at out' i
  pub size : length (piece out from n) ≡ n
  pub before : from + n ≤ at

pub copied-start : {out : List ℕ} {at from n : ℕ} → from + n ≤ at → at + n ≤ length out → length out < last → Copied out at from n out 0
copied-start {out} {at} {from} {n} h k l =
    let z = length-piece out from n (omega arith) in
    record { copying = copying-start (rw z k) l; size = z; before = h }

module _ {out : List ℕ} {at from n : ℕ} {out' : List ℕ} {i : ℕ} (inv : Copied out at from n out' i) where
  pub copied-length : length out' ≡ length out
  copied-length = copying-length inv.copying

  module _ (h : i < n) where
    within : i < length (piece out from n)
    within = omega (arith, inv.size)

    pub copied-within : at + i < length out'
    copied-within = copying-within inv.copying within

    pub copied_source : from + i < length out'
    copied_source = omega (arith, copied-within, inv.before)

    -- the byte that is read is still the one that stood there
    same_byte : get_or out' (from + i) 0 ≡ get_or (piece out from n) i 0
    same_byte =
        let s = piece out from n in
        let fits : at + length (take i s) ≤ last = omega (arith, length-take i s, inv.size, inv.copying.room, inv.copying.last-room) in
        let e = inv.copying.sofar.is ∙ laid-sets out at (take i s) fits in
        let q = ap (λ o. get_or o (from + i) 0) e ∙ get_or-sets-below (take i s) out at (from + i) (omega (arith, inv.before)) in
        q ∙ sym (get_or-take n (drop from out) i 0 h ∙ get_or-drop from out i 0)

    pub copied_on : Copied out at from n (set out' (at + i) (get_or out' (from + i) 0)) (i + 1)
    copied_on = record { copying = rw same_byte (copying-on inv.copying within); size = inv.size; before = inv.before }

  pub copied-end : n ≤ i → Printed out at out' (at + n) (piece out from n)
  copied-end h = rw inv.size at (copying-end inv.copying (omega (arith, inv.size)))

pub ruleset copied = (copied-length, copied-within, copied_source, copied_on, copied-end, rules)

-- ---- the text that stands

-- printing that fits changes nothing before its position
module _ {o : List ℕ} {at : ℕ} {o' : List ℕ} {r : ℕ} {w : List ℕ} (p : Printed o at o' r w) (l : length o < last) (h : r ≤ length o') where
  fits : r ≡ at + length w
  fits = p.to ∙ past-below at w (omega (arith, p.to, length-printed p))

  is-sets : o' ≡ sets o at w
  is-sets = p.is ∙ laid-sets o at w (omega (arith, fits, length-printed p))

  kept-before : take at o' ≡ take at o
  kept-before = ap (take at) is-sets ∙ take-sets w o at at (omega arith)

pub standing-kept : {t o : List ℕ} {from at : ℕ} {o' : List ℕ} {r : ℕ} {w : List ℕ} → length o < last → Standing t o from at → Printed o at o' r w → Standing t o' from r
standing-kept {t} {o} {from} {at} {o'} {r} {w} l s p =
    let e = length-printed p in
    let b : from < length o' → r ≤ length o' → from + length t ≤ at = λ h k. s.before (omega arith) (omega (arith, fits p l k)) in
    record {
      before = λ h k. omega (arith, b h k, fits p l k);
      is = λ h k. piece-below o o' at from (length t) (b h k) (kept-before p l k) ∙ s.is (omega arith) (omega (arith, fits p l k));
    }

standing_here : {o : List ℕ} {at : ℕ} {o' : List ℕ} {r : ℕ} (t : List ℕ) → length o < last → Printed o at o' r t → Standing t o' at r
standing_here {o} {at} {o'} t l p =
    record {
      before = λ h k. omega (arith, fits p l k);
      is = λ h k. ap (λ x. piece x at (length t)) (is-sets p l k) ∙ piece-stored t o at (length t) refl (omega (arith, fits p l k, length-printed p));
    }

-- a text in the middle of what was printed
pub standing-within : {o : List ℕ} {at : ℕ} {o' : List ℕ} {r q : ℕ} (a t b : List ℕ) → length o < last → q ≡ skipped at (length a) → Printed o at o' r (a ++ (t ++ b)) → Standing t o' q r
standing-within {o} {at} a t b l e p =
    let f : Printed o at (laid o at a) (past at a) a = first_part in
    let g = first_part {o = laid o at a} {at = past at a} {a = t} in
    let m : length (laid o at a) < last = omega (arith, length-printed f) in
    let s = standing-kept (omega (arith, length-printed g)) (standing_here t m g) (second-part t b (second-part a (t ++ b) p)) in
    rw (e ∙ sym (past-skipped at a)) s

-- n is what the text measured, and it fits once more
module _ {t o : List ℕ} {from at n : ℕ} (s : Standing t o from at) (m : n ≡ past 0 t) (h : from < length o) (k : at < length o) (f : n ≤ length o - at) (l : length o < last) where
  measured : n ≡ length t
  measured = omega (arith, m, past-below 0 t (omega (arith, m)))

  pub again-before : from + n ≤ at
  again-before = omega (arith, measured, s.before h (omega arith))

  pub again-printed : {o' : List ℕ} {r : ℕ} → Printed o at o' r (piece o from n) → Printed o at o' r t
  again-printed p = rw (measured, s.is h (omega arith)) at p
