-- Laws of the generator's answer; d is the answer about arrays.
use Rattle.std.proofs.Common.{◌≡◌, refl, sym, ap, ◌∙◌, Bool, true, false, Option, None, Some, List, [], ℕ, ◌≤◌, ◌<◌, ◌^◌, arith, eqb, leb, length, le-leb, leb-true, leb-false, Ok, Err, IsErrAnd}
use Rattle.texts.proofs.Choosing.{by-test}
use Rattle.std.proofs.lemmas.Result.{err_from_is_err_and}
use Rattle.refusals.specs.Figures.{Answer}
use Rattle.refusals.specs.declared.Refusal.{Refusal}
use Rattle.refusals.specs.declared.Refusal.TheVariants.{NoRoom}
use Rattle.printing.specs.Printed.{past, skipped, laid, Printed}
use Rattle.printing.specs.Output.{finished, output_after}
use Rattle.printing.proofs.Sequencing.{first_part}
use Rattle.printing.proofs.Passing.{past-skipped}
use Rattle.printing.proofs.Finishing.{no_room, wrote, wrote-output}
use Rattle.model.specs.Schema.{Schema}
use Rattle.xmltoproto.specs.Source.{source}
use Rattle.xmltoproto.specs.Arrays.{array_refusal}
use Rattle.xmltoproto.specs.internal.Refusing.{refusing}
use Rattle.xmltoproto.specs.Generate.{generated, Generated}

some-refused : (o : Option Refusal) (q : Refusal) → Err q ≡ refusing o → o ≡ Some q
some-refused None q e = absurd (let z : ◌≡◌ {A = ℕ} 0 1 = cc in omega arith)
some-refused (Some r) q e = cc

none-fine : (o : Option Refusal) {u : Unit {0}} → Ok u ≡ refusing o → o ≡ None
none-fine None e = refl
none-fine (Some r) e = absurd (let z : ◌≡◌ {A = ℕ} 0 1 = cc in omega arith)

module _ (s : Schema) (out : List ℕ) where
  -- what a `?` passes on
  pub generated-refused : {q : Refusal} → Err q ≡ refusing (array_refusal s) → {r : Answer} → IsErrAnd r (λ e. e ≡ q) → Generated s out out r
  unfolding generated output_after
  generated-refused {q} e {r} h =
      let p = err_from_is_err_and r h in
      let g : r ≡ Err q = p.1 ∙ ap (λ x. Err x) p.2 in
      record { is = rw (some-refused (array_refusal s) q e) g; output = rw g refl }

  module _ {u : Unit {0}} (e : Ok u ≡ refusing (array_refusal s)) {b : Bool} (eb : b ≡ leb (past 0 (source s)) (length out)) where
    accepted : generated s (length out) ≡ finished (source s) (length out)
    unfolding generated
    accepted = rw (none-fine (array_refusal s) e)

    pub generated-no-room : b ≡ false → Generated s out out (Err NoRoom)
    unfolding output_after
    generated-no-room v = record { is = no_room out (first_part {o = []}) (leb-false (past 0 (source s)) (length out) (sym eb ∙ v)) ∙ sym accepted; output = refl }

    pub generated-wrote : b ≡ true → length out < 2 ^ 63 → {out' : List ℕ} {k : ℕ} → Printed out 0 out' k (source s) → Generated s out out' (Ok k)
    generated-wrote v l w =
        let m : Printed [] 0 (laid [] 0 (source s)) (past 0 (source s)) (source s) = first_part in
        let h = leb-true (past 0 (source s)) (length out) (sym eb ∙ v) in
        record { is = wrote m h l w ∙ sym accepted; output = rw (wrote m h l w) (wrote-output m h l w) }

-- ---- whether a text fits, by a bound of its length or by its measure

skipped-most : (n : ℕ) → skipped 0 n ≤ n
unfolding skipped
skipped-most n = by-test (eqb n 0) (λ t. rw t (omega arith)) (λ f. rw f (omega arith))

pub room_bound : (t : List ℕ) (room : ℕ) {n : ℕ} → length t ≤ n → n ≤ room → true ≡ leb (past 0 t) room
room_bound t room h k = sym (le-leb (past 0 t) room (omega (arith, past-skipped 0 t, skipped-most (length t))))

pub room-measured : {o o' : List ℕ} {n : ℕ} {t : List ℕ} (room : ℕ) → Printed o 0 o' n t → leb n room ≡ leb (past 0 t) room
room-measured room p = ap (λ n. leb n room) p.to
