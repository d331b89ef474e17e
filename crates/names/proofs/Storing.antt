-- Laws of storing a name that surely fits: two bytes are left for each of its positions.
use Rattle.std.proofs.Common.{◌≡◌, Bool, true, false, List, [], ◌∷◌, ◌++◌, ℕ, ◌+◌, ◌-◌, ◌*◌, ◌≤◌, ◌<◌, arith, length, get_or, set}
use Rattle.texts.specs.Choice.{pick}
use Rattle.printing.specs.Printed.{last, past, Printed}
use Rattle.printing.specs.Repeated.{up_to}
use Rattle.printing.proofs.Sequencing.{blank, ◌▸◌, length-printed, printed-yes, printed-no}
use Rattle.printing.proofs.Passing.{stored}
use Rattle.printing.proofs.Writing.{up_to-more}
use Rattle.names.specs.internal.Room.{Ample}
use Rattle.names.specs.Conversions.{cased_at, cased}

-- ---- an underscore, stored or not

put : {o : List ℕ} {at b : ℕ} → Ample o at → Printed o at (set o at b) (at + 1) (b ∷ [])
put a = stored (omega (arith, a.two)) (omega (arith, a.short))

pub break-yes : {on : Bool} {o : List ℕ} {at : ℕ} → on ≡ true → Ample o at → Printed o at (set o at 95) (at + 1) (pick on (95 ∷ []) [])
break-yes t a = printed-yes (95 ∷ []) [] t (put a)

pub break-no : {on : Bool} {o : List ℕ} {at : ℕ} → on ≡ false → Printed o at o at (pick on (95 ∷ []) [])
break-no t = printed-no (95 ∷ []) [] t blank

break-to : (b : Bool) (q : ℕ) → q < last → past q (pick b (95 ∷ []) []) ≤ q + 1
unfolding past
break-to true q h = omega arith
break-to false q h = omega arith

-- ---- the loop

-- i positions of a name of n bytes are stored, and p is the next place
pub record Storing (f : ℕ → List ℕ) (n : ℕ) (o : List ℕ) (at : ℕ) (o' : List ℕ) (p i : ℕ) : Type 0 where
  pub sofar : Printed o at o' p (up_to f i)
  pub room : p + 2 * (n - i) ≤ length o
  pub last-room : length o < last

pub storing-start : {f : ℕ → List ℕ} {n : ℕ} {o : List ℕ} {at : ℕ} → at + 2 * n ≤ length o → length o < last → Storing f n o at o at 0
unfolding up_to
storing-start h l = record { sofar = blank; room = omega arith; last-room = l }

module _ {f : ℕ → List ℕ} {n : ℕ} {o : List ℕ} {at : ℕ} {o' : List ℕ} {p i : ℕ} (inv : Storing f n o at o' p i) where
  same : length o' ≡ length o
  same = length-printed inv.sofar

  module _ (h : i < n) (b : Bool) {o₁ : List ℕ} {r : ℕ} (q : Printed o' p o₁ r (pick b (95 ∷ []) [])) where
    near : r ≤ p + 1
    near = omega (arith, q.to, break-to b p (omega (arith, inv.room, inv.last-room)))

    pub storing-within : r < length o₁
    storing-within = omega (arith, near, same, length-printed q, inv.room)

    pub storing-on : (v : ℕ) → f i ≡ pick b (95 ∷ []) [] ++ (v ∷ []) → Storing f n o at (set o₁ r v) (r + 1) (i + 1)
    storing-on v e =
        let s : Printed o₁ r (set o₁ r v) (r + 1) (v ∷ []) = stored storing-within (omega (arith, same, length-printed q, inv.last-room)) in
        record {
          sofar = rw (up_to-more f i, e) (inv.sofar ▸ (q ▸ s));
          room = omega (arith, near, inv.room);
          last-room = inv.last-room;
        }

module _ (breaks : List ℕ → ℕ → Bool) (shown : ℕ → ℕ) (s : List ℕ) where
  pub cased-is : (i : ℕ) {b : Bool} {v : ℕ} → b ≡ breaks s i → v ≡ shown (get_or s i 0) → cased_at breaks shown s i ≡ pick b (95 ∷ []) [] ++ (v ∷ [])
  unfolding cased_at
  cased-is i eb ev = rw (← eb, ← ev)

  pub cased-stored : {o : List ℕ} {at : ℕ} {o' : List ℕ} {p i : ℕ} → Storing (cased_at breaks shown s) (length s) o at o' p i → i ≡ length s → Printed o at o' p (cased breaks shown s)
  unfolding cased
  cased-stored inv e = rw e at inv.sofar
