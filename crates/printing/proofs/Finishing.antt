-- Laws of measuring, then writing: where a measured text fits, printing it writes all of it.
use Rattle.std.proofs.Common.{◌≡◌, ◌∙◌, List, ◌++◌, ℕ, ◌+◌, ◌≤◌, ◌<◌, arith, length, take, drop, lt-ltb, le-ltb, Ok, Err}
use lib.Seq.{sets, sets-eq}
use Rattle.refusals.specs.declared.Refusal.TheVariants.{NoRoom}
use Rattle.printing.specs.Printed.{last, past, Printed}
use Rattle.printing.specs.Output.{finished, output_after}
use Rattle.printing.proofs.Passing.{past-le, past-below, laid-sets}

-- the text measured n, and the output is shorter: nothing is written
module _ (out : List ℕ) {e e' : List ℕ} {n : ℕ} {t : List ℕ} (m : Printed e 0 e' n t) (h : length out < n) where
  longer : length out < length t
  longer = omega (arith, m.to, past-le 0 t)

  pub no_room : Err NoRoom ≡ finished t (length out)
  unfolding finished
  no_room = rw (lt-ltb (length out) (length t) longer)

-- the text fits, and was written
module _ {e e' out out' : List ℕ} {n k : ℕ} {t : List ℕ} (m : Printed e 0 e' n t) (h : n ≤ length out) (l : length out < last) (w : Printed out 0 out' k t) where
  size : past 0 t ≡ length t
  size =
      let s : past 0 t ≡ 0 + length t = past-below 0 t (omega (arith, m.to)) in
      omega arith

  fits : length t ≤ length out
  fits = omega (arith, m.to, size)

  pub wrote : Ok k ≡ finished t (length out)
  unfolding finished
  wrote = rw (le-ltb (length out) (length t) fits, w.to, size)

  pub wrote-output : out' ≡ output_after (finished t (length out)) t out
  unfolding finished output_after
  wrote-output =
      let z : 0 + length t ≡ length t = omega arith in
      let q : sets out 0 t ≡ take 0 out ++ t ++ drop (0 + length t) out = sets-eq t out 0 (omega (arith, fits)) in
      rw (le-ltb (length out) (length t) fits) (w.is ∙ laid-sets out 0 t (omega (arith, fits)) ∙ q ∙ rw z)
