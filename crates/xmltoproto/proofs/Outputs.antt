-- Laws of outputs: a text written to an output is one printed into its slice, and back.
use Rattle.std.proofs.Common.{◌≡◌, refl, sym, ap, ◌∙◌, List, [], ℕ, ◌≤◌, ◌<◌, ◌^◌, length}
use Rattle.printing.specs.Printed.{past, laid, Printed}
use Rattle.printing.specs.Written.{written, moved, Wrote}
use Rattle.printing.specs.declared.Output.{Output}
use Rattle.printing.proofs.Passing.{counted-measured}
use Rattle.printing.proofs.Writing.{written-nothing}

pub blank : {o : Output} → Wrote o o []
blank {o} = record { is = sym (written-nothing o) }

pub printed-of : {o o' : Output} {t : List ℕ} → Wrote o o' t → Printed o.bytes.now o.at o'.bytes.now o'.at t
unfolding written
printed-of w = record { is = ap (λ x. x.bytes.now) w.is; to = ap (λ x. x.at) w.is }

-- another text that prints the same bytes
pub rewrote : {o o' : Output} {a b : List ℕ} → Wrote o o' a → Printed o.bytes.now o.at o'.bytes.now o'.at b → Wrote o o' b
unfolding written
rewrote {o} {o'} {a} {b} w p =
    let q = printed-of w in
    let x : laid o.bytes.now o.at a ≡ laid o.bytes.now o.at b = sym q.is ∙ p.is in
    let y : past o.at a ≡ past o.at b = sym q.to ∙ p.to in
    record { is = rw (← x, ← y) w.is }

-- a measured text that is passed, past the slice
pub passed : {o o' : Output} {t : List ℕ} {n : ℕ} → length o.bytes.now ≤ o.at → length o.bytes.now < 2 ^ 63 → n ≡ past 0 t → o' ≡ moved o n → Wrote o o' t
unfolding written
passed {o} {o'} {t} {n} h l m e =
    let p = counted-measured t h l m refl in
    record { is = rw (← p.is, ← p.to) e }
