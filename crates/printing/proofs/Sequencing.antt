-- Laws of texts printed one after the other.
use Rattle.std.proofs.Common.{◌≡◌, refl, ap, ◌∙◌, List, [], ◌∷◌, ◌++◌, ℕ, length, set, length-set, Bool, true, false}
use Rattle.texts.specs.Choice.{pick}
use Rattle.printing.specs.Printed.{next, past, laid, Printed}

pub past-append : (at : ℕ) (a b : List ℕ) → past at (a ++ b) ≡ past (past at a) b
unfolding past
past-append at [] b = refl
past-append at (x ∷ a) b = past-append (next at) a b

pub laid-append : (out : List ℕ) (at : ℕ) (a b : List ℕ) → laid out at (a ++ b) ≡ laid (laid out at a) (past at a) b
unfolding laid past
laid-append out at [] b = refl
laid-append out at (x ∷ a) b = laid-append (set out at x) (next at) a b

-- nothing printed
pub blank : {out : List ℕ} {at : ℕ} → Printed out at out at []
unfolding laid past
blank = record { is = refl; to = refl }

-- one text after another
infixl 60 ◌▸◌
pub ◌▸◌ : {o : List ℕ} {at : ℕ} {o' : List ℕ} {r : ℕ} {o'' : List ℕ} {r' : ℕ} {a b : List ℕ}
    → Printed o at o' r a → Printed o' r o'' r' b → Printed o at o'' r' (a ++ b)
p ▸ q = record { is = rw (laid-append, ← p.is, ← p.to) q.is; to = rw (past-append, ← p.to) q.to }

-- the converse: the first text, and the second after it
pub first_part : {o : List ℕ} {at : ℕ} {a : List ℕ} → Printed o at (laid o at a) (past at a) a
first_part = record { is = refl; to = refl }

pub second-part : {o : List ℕ} {at : ℕ} {o' : List ℕ} {r : ℕ} (a b : List ℕ) → Printed o at o' r (a ++ b) → Printed (laid o at a) (past at a) o' r b
second-part a b p = record { is = p.is ∙ laid-append _ _ a b; to = p.to ∙ past-append _ a b }

pub length-laid : (out : List ℕ) (at : ℕ) (t : List ℕ) → length (laid out at t) ≡ length out
unfolding laid
length-laid out at [] = refl
length-laid out at (b ∷ t) = length-laid (set out at b) (next at) t ∙ length-set out at b

-- a slice keeps its length
pub length-printed : {o : List ℕ} {at : ℕ} {o' : List ℕ} {r : ℕ} {t : List ℕ} → Printed o at o' r t → length o' ≡ length o
length-printed p = ap length p.is ∙ length-laid _ _ _

-- one text is printed if a test holds, and another if not
module _ {on : Bool} {o : List ℕ} {at : ℕ} {o' : List ℕ} {r : ℕ} (a b : List ℕ) where
  pub printed-yes : on ≡ true → Printed o at o' r a → Printed o at o' r (pick on a b)
  printed-yes t p = rw (t, pick) p

  pub printed-no : on ≡ false → Printed o at o' r b → Printed o at o' r (pick on a b)
  printed-no t p = rw (t, pick) p
