-- Laws of runs of stores: what `sets` changes, and what it leaves.
use Rattle.std.proofs.Common.{◌≡◌, refl, sym, ap, ◌∙◌, List, [], ◌∷◌, ◌++◌, append_assoc, ℕ, suc, ◌+◌, ◌-◌, ◌≤◌, ◌<◌, arith, length, take, drop, get_or, set, get_or-set_other, get_or-drop, drop-set-lt, length-take-le, take-take, drop-drop, take_at, drop_at}
use Rattle.std.proofs.lemmas.List.{drop-take}
use lib.ListN.{get_or-append}
use lib.Seq.{sets, sets-eq, take-set-le}
use Rattle.texts.specs.Text.{piece}

pub get_or-sets-below : (vs l : List ℕ) (i j : ℕ) → j < i → get_or (sets l i vs) j 0 ≡ get_or l j 0
get_or-sets-below [] l i j h = refl
get_or-sets-below (v ∷ vs) l i j h = get_or-sets-below vs (set l i v) (suc i) j (omega arith) ∙ get_or-set_other l i j v 0 (λ e. omega arith)

pub get_or-sets-above : (vs l : List ℕ) (i j : ℕ) → i + length vs ≤ j → get_or (sets l i vs) j 0 ≡ get_or l j 0
get_or-sets-above [] l i j h = refl
get_or-sets-above (v ∷ vs) l i j h = get_or-sets-above vs (set l i v) (suc i) j (omega arith) ∙ get_or-set_other l i j v 0 (λ e. omega arith)

pub take-sets : (vs l : List ℕ) (n i : ℕ) → n ≤ i → take n (sets l i vs) ≡ take n l
take-sets [] l n i h = refl
take-sets (v ∷ vs) l n i h = take-sets vs (set l i v) n (suc i) (omega arith) ∙ take-set-le n l i v h

pub drop-sets : (vs l : List ℕ) (n i : ℕ) → i + length vs ≤ n → drop n (sets l i vs) ≡ drop n l
drop-sets [] l n i h = refl
drop-sets (v ∷ vs) l n i h = drop-sets vs (set l i v) n (suc i) (omega arith) ∙ drop-set-lt n l i v (omega arith)

-- what was stored is there
drop-stored : (vs l : List ℕ) (i : ℕ) → i + length vs ≤ length l → drop i (sets l i vs) ≡ vs ++ drop (i + length vs) l
drop-stored vs l i h = ap (drop i) (sets-eq vs l i h ∙ append_assoc (take i l) vs (drop (i + length vs) l)) ∙ drop_at (take i l) (vs ++ drop (i + length vs) l) i (length-take-le i l (omega arith))

pub get_or-sets-in : (vs l : List ℕ) (i k : ℕ) → i + length vs ≤ length l → k < length vs → get_or (sets l i vs) (i + k) 0 ≡ get_or vs k 0
get_or-sets-in vs l i k h b = sym (get_or-drop i (sets l i vs) k 0) ∙ ap (λ t. get_or t k 0) (drop-stored vs l i h) ∙ get_or-append vs (drop (i + length vs) l) 0 k b

pub piece-stored : (vs l : List ℕ) (i n : ℕ) → length vs ≡ n → i + n ≤ length l → piece (sets l i vs) i n ≡ vs
piece-stored vs l i n e h = ap (take n) (drop-stored vs l i (omega arith)) ∙ take_at vs (drop (i + length vs) l) n e

-- a piece is the same in two texts that agree up to its end, or from its start on
pub piece-below : (s t : List ℕ) (low a n : ℕ) → a + n ≤ low → take low t ≡ take low s → piece t a n ≡ piece s a n
piece-below s t low a n h e =
    let f : (l : List ℕ) → piece l a n ≡ drop a (take (a + n) l) = λ l. sym (drop-take a n l) in
    f t ∙ ap (drop a) (sym (take-take (a + n) low t h) ∙ ap (take (a + n)) e ∙ take-take (a + n) low s h) ∙ sym (f s)

pub piece-above : (s t : List ℕ) (high a n : ℕ) → high ≤ a → drop high t ≡ drop high s → piece t a n ≡ piece s a n
piece-above s t high a n h e =
    let k : high + (a - high) ≡ a = omega arith in
    let f : (l : List ℕ) → drop a l ≡ drop (a - high) (drop high l) = λ l. ap (λ j. drop j l) (sym k) ∙ sym (drop-drop (a - high) high l) in
    ap (take n) (f t ∙ ap (drop (a - high)) e ∙ sym (f s))
