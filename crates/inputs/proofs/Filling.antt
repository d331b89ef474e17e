-- Laws of filling a buffer: what it holds, and what was taken of the input, after one more read.
use Rattle.std.proofs.Common.{◌≡◌, ℕ, ◌+◌, ◌≤◌, List, ◌++◌, Option, length, take, sym, ap, subst, ◌∙◌, length-take-le}
use lib.Seq.{take-append-le, take-append-add}
use borrow.Rule.Slice.PartMut.{put_mid, post_of}
use Rattle.std.specs.Io.KnownBytes.{Consumes}
use Rattle.std.proofs.KnownBytes.{Consumes-trans}

take-put : (at k n : ℕ) (xs ys : List ℕ) → at ≤ length xs → n ≤ length ys → take (at + n) (put_mid at k xs ys) ≡ take at xs ++ take n ys
take-put at k n xs ys h l =
    let len = length-take-le at xs h in
    ap (λ a. take (a + n) (put_mid at k xs ys)) (sym len) ∙ take-append-add (take at xs) (ys ++ post_of at k xs) n
    ∙ ap (λ t. take at xs ++ t) (take-append-le n ys (post_of at k xs) l)

-- one more read
pub filled-on : (a b c : Option (List ℕ)) (xs ys : List ℕ) (at k n : ℕ) → at ≤ length xs → n ≤ length ys → Consumes a b (take at xs) → Consumes b c (take n ys)
    → Consumes a c (take (at + n) (put_mid at k xs ys))
filled-on a b c xs ys at k n h l p q = subst (Consumes a c) (sym (take-put at k n xs ys h l)) (Consumes-trans a b c _ _ p q)
