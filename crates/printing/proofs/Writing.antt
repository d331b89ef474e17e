-- Laws of texts written to an `Output` one after the other. With them `grind` proves chains of
-- writes, of any length, and loops whose invariant is `Wrote l.initial.out l.out (up_to f l.i)`.
use Rattle.std.proofs.Common.{◌≡◌, refl, ap, ◌∙◌, List, [], ◌∷◌, ◌++◌, append_assoc, append-nil, ℕ, ◌+◌, ◌^◌, ◌≤◌, ◌<◌, add-one, length, take, get_or, take-suc}
use Rattle.texts.specs.Lists.{each}
use Rattle.printing.specs.Printed.{laid, past, skipped, Printed}
use Rattle.printing.specs.Repeated.{up_to}
use Rattle.printing.specs.Written.{written, moved, Wrote}
use Rattle.printing.specs.declared.Output.{Output}
use Rattle.printing.proofs.Sequencing.{past-append, laid-append, length-laid}
use Rattle.printing.proofs.Passing.{counted as told}

pub written-append : (o : Output) (a b : List ℕ) → written (written o a) b ≡ written o (a ++ b)
unfolding written
written-append o a b = rw (past-append, laid-append)

pub written-nothing : (o : Output) → written o [] ≡ o
unfolding written laid past
written-nothing o = refl

-- the slice keeps its length
pub length-written : (o : Output) (t : List ℕ) → length (written o t).bytes.now ≡ length o.bytes.now
unfolding written
length-written o t = length-laid o.bytes.now o.at t

-- one text after another, as `c.text.ensures ▹ c.text-2.ensures`, where `grind` gives up
infixl 60 ◌▹◌
pub ◌▹◌ : {o m o' : Output} {a b : List ℕ} → Wrote o m a → Wrote m o' b → Wrote o o' (a ++ b)
p ▹ q = record { is = rw (← written-append, ← p.is) q.is }

-- where nothing of a text fits, counting its length writes it
pub counted : {o o' : Output} {n : ℕ} (t : List ℕ) → length o.bytes.now ≤ o.at → length o.bytes.now < 2 ^ 63 →
    n ≡ length t → o' ≡ moved o n → Wrote o o' t
unfolding written
counted {o} {o'} {n} t h l e m =
    let p : Printed o.bytes.now o.at o.bytes.now (skipped o.at n) t = told t h l (ap (skipped o.at) e) in
    record { is = m ∙ rw (← p.is, p.to) refl }

-- ---- loops

pub up_to-none : (f : ℕ → List ℕ) → up_to f 0 ≡ []
unfolding up_to
up_to-none f = refl

pub up_to-more : (f : ℕ → List ℕ) (n : ℕ) → up_to f (n + 1) ≡ up_to f n ++ f n
unfolding up_to
up_to-more f n = rw add-one

pub each-none : {A : Type 0} (f : A → List ℕ) → each f [] ≡ []
unfolding each
each-none f = refl

each-append : {A : Type 0} (f : A → List ℕ) (xs ys : List A) → each f (xs ++ ys) ≡ each f xs ++ each f ys
unfolding each
each-append f [] ys = refl
each-append f (x ∷ xs) ys = ap (λ t. f x ++ t) (each-append f xs ys) ∙ rw append_assoc

-- one more element that an iterator gave
pub each-more : {A : Type 0} (f : A → List ℕ) (xs : List A) (x : A) → each f (xs ++ x ∷ []) ≡ each f xs ++ f x
unfolding each
each-more f xs x = each-append f xs (x ∷ []) ∙ rw append-nil

-- one more byte of a text
pub each_at : (f : ℕ → List ℕ) (s : List ℕ) (i : ℕ) → i < length s → each f (take (i + 1) s) ≡ each f (take i s) ++ f (get_or s i 0)
each_at f s i h = rw (add-one, take-suc s i 0) (each-more f (take i s) (get_or s i 0))

pub ruleset writing = (written-append, written-nothing, length-written, up_to-none, up_to-more, each-none, each-more, each_at)
