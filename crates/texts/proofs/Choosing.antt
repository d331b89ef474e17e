-- Laws of choice by a test.
use Rattle.std.proofs.Common.{◌≡◌, refl, sym, Bool, true, false}
use Rattle.texts.specs.Choice.{pick}
pub use Rattle.std.proofs.lemmas.Bool.{cond-true as pick_yes, cond-false as pick_no, and_parts as both_true}
pub use lib.Ieee.Fits.{and_l as and_left, and_r as and_right}
pub use lib.Ieee.Bits.{is_true}

-- by cases of a test
pub by-test {ℓ} : {X : Type ℓ} (b : Bool) → (b ≡ true → X) → (b ≡ false → X) → X
by-test true f g = f refl
by-test false f g = g refl

-- two tests that hold together are one
pub by-both : (a b : Bool) → (a ≡ true → b ≡ true) → (b ≡ true → a ≡ true) → a ≡ b
by-both true b f g = sym (f refl)
by-both false true f g = g refl
by-both false false f g = refl

-- what holds of both answers holds of the one picked
pub pick-by : {X : Type 0} (P : X → Type 0) (b : Bool) {x y : X} → (b ≡ true → P x) → (b ≡ false → P y) → P (pick b x y)
pick-by P true f g = f refl
pick-by P false f g = g refl

-- and what relates two pairs of answers relates the two that are picked
pub pick-both : {X : Type 0} (R : X → X → Type 0) (b : Bool) {x y u v : X} → R x u → R y v → R (pick b x y) (pick b u v)
pick-both R true f g = f
pick-both R false f g = g
