-- Laws of writing in pieces: what was written of a text, after one more write.
use Rattle.std.proofs.Common.{◌≡◌, ℕ, ◌+◌, ◌-◌, List, ◌++◌, Option, length, take, drop, sym, ap, subst, ◌∙◌, arith, take-add, take_all, length-drop}
use Rattle.std.specs.Io.KnownBytes.{Appends}
use Rattle.std.proofs.KnownBytes.{Appends-trans}

pub written-on : (a b c : Option (List ℕ)) (text : List ℕ) (done n : ℕ) → Appends a b (take done text) → Appends b c (take n (take (length text - done) (drop done text)))
    → Appends a c (take (done + n) text)
written-on a b c text done n p q =
    let rest : take (length text - done) (drop done text) ≡ drop done text = take_all (length text - done) (drop done text) (omega (arith, length-drop done text)) in
    subst (Appends a c) (ap (λ t. take done text ++ take n t) rest ∙ sym (take-add done n text)) (Appends-trans a b c _ _ p q)
