-- Laws of the converter.
use Rattle.std.proofs.Common.{◌≡◌, refl, ap, ◌∙◌, List, ℕ, arith, ltb, length, Option, None, Some, Ok, Err, IsErrAnd}
use Rattle.std.proofs.lemmas.Result.{err_from_is_err_and}
use Rattle.refusals.specs.Figures.{Answer}
use Rattle.refusals.specs.declared.Refusal.{Refusal}
use Rattle.refusals.specs.declared.Refusal.TheVariants.{NoRoom}
use Rattle.texts.proofs.Choosing.{by-test, pick_yes, pick_no}
use Rattle.printing.specs.Output.{finished, output_after}
use Rattle.xmlschema.specs.Whole.{Whole, accepted, refused_by}
use Rattle.xmlschema.specs.Read.{ReadInto}
use Rattle.xmltoproto.specs.Arrays.{array_refusal}
use Rattle.xmltoproto.specs.Source.{source}
use Rattle.xmltoproto.specs.Generate.{answer_after, generated}
use Rattle.xmltoproto.specs.Convert.{converted, source_in, Converts}

-- d is what reading answered, w what the definition says

module _ (doc rec₀ text₀ out rec text : List ℕ) where
  -- what a `?` passes on
  pub convert-refused : {q : Refusal} → ReadInto doc rec₀ text₀ (Err q) rec text → {r : Answer} → IsErrAnd r (λ e. e ≡ q) → Converts doc (length rec₀) (length text₀) out out r
  unfolding output_after
  convert-refused {q} e {r} h =
      let p = err_from_is_err_and r h in
      let g : r ≡ Err q = p.1 ∙ ap (λ x. Err x) p.2 in
      record { is = g ∙ ap (λ x. converted x (length out)) e.is; output = rw g refl }

-- ---- an accepted n is the length of the source

finished-length : (text : List ℕ) (room n : ℕ) → finished text room ≡ Ok n → length text ≡ n
unfolding finished
finished-length text room n e =
    by-test (ltb room (length text))
    (λ t. absurd (let z : ◌≡◌ {A = ℕ} 0 1 = cc (pick_yes (ltb room (length text)) (Err NoRoom) (Ok (length text)) t) in omega arith))
    (λ f. let z : length text ≡ n = cc (pick_no (ltb room (length text)) (Err NoRoom) (Ok (length text)) f) in z)

answer-length : (o : Option Refusal) (text : List ℕ) (room n : ℕ) → answer_after o text room ≡ Ok n → length text ≡ n
answer-length None text room n e = finished-length text room n e
answer-length (Some q) text room n e = absurd (let z : ◌≡◌ {A = ℕ} 0 1 = cc in omega arith)

pub converted-length : (w : Whole) (room n : ℕ) → converted w room ≡ Ok n → length (source_in w) ≡ n
unfolding generated
converted-length (accepted s) room n e = answer-length (array_refusal s) (source s) room n e
converted-length (refused_by q) room n e = absurd (let z : ◌≡◌ {A = ℕ} 0 1 = cc in omega arith)
