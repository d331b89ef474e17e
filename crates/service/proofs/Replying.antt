-- Laws of a reply: what stands at the start of the output after the converter's answer.
use Rattle.std.proofs.Common.{◌≡◌, sym, ap, ◌∙◌, List, ◌++◌, ℕ, length, take, drop, take_at, Ok, Err}
use Rattle.texts.specs.Text.{piece}
use Rattle.refusals.specs.Figures.{Answer}
use Rattle.refusals.specs.declared.Refusal.{Refusal}
use Rattle.printing.specs.Output.{output_after}
use Rattle.xmlschema.specs.Whole.{answer_of}
use Rattle.xmltoproto.specs.Convert.{converted, source_in, Converts}
use Rattle.xmltoproto.proofs.Converting.{converted-length}
use Rattle.service.specs.Printed.{printed, printed_after, refusal_line}

-- `rs`, `ts` and the output have the lengths of the program's buffers
module _ (doc rs ts out : List ℕ) (lr : length rs ≡ 16384) (lt : length ts ≡ 65536) (lo : length out ≡ 65536) {out' : List ℕ} {r : Answer} (c : Converts doc (length rs) (length ts) out out' r) where
  whole : answer_of doc (length rs) (length ts) ≡ answer_of doc 16384 65536
  whole = rw (lr, lt)

  answered : r ≡ converted (answer_of doc 16384 65536) 65536
  answered = c.is ∙ rw (whole, lo)

  told : printed doc ≡ printed_after r (source_in (answer_of doc 16384 65536))
  unfolding printed
  told = ap (λ x. printed_after x (source_in (answer_of doc 16384 65536))) (sym answered)

  pub replied-source : {n : ℕ} → r ≡ Ok n → {w : List ℕ} → w ≡ piece out' 0 n → w ≡ printed doc
  unfolding output_after
  replied-source {n} e {w} ew =
      let text = source_in (answer_of doc 16384 65536) in
      let l : length text ≡ n = converted-length (answer_of doc 16384 65536) 65536 n (sym answered ∙ e) in
      let o : out' ≡ text ++ drop n out = c.output ∙ ap (λ x. output_after x (source_in (answer_of doc (length rs) (length ts))) out) e ∙ ap (λ x. source_in x ++ drop n out) whole in
      ew ∙ ap (take n) o ∙ take_at text (drop n out) n l ∙ ap (λ x. printed_after x text) (sym e) ∙ sym told

  pub replied-line : {q : Refusal} → r ≡ Err q → {w : List ℕ} → w ≡ refusal_line q → w ≡ printed doc
  replied-line {q} e {w} ew = ew ∙ ap (λ x. printed_after x (source_in (answer_of doc 16384 65536))) (sym e) ∙ sym told
