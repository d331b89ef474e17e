-- What two calls of the converter left: the same bytes exactly when the sheets are equal.
use Rattle.std.proofs.Common.{◌≡◌, refl, sym, ap, ◌∙◌, Bool, List, ◌++◌, ℕ, arith, length, take, drop, take_at, Ok, Err, ◌↔◌, IsTrue}
use Rattle.texts.specs.Text.{piece, same}
use Rattle.texts.proofs.Comparing.{same-equal, equal-same}
use Rattle.refusals.specs.Figures.{Answer}
use Rattle.printing.specs.Output.{output_after}
use Rattle.model.specs.Schema.{Schema}
use Rattle.xmlschema.specs.Whole.{Whole, accepted, refused_by, answer_of}
use Rattle.xmltoproto.specs.Source.{source}
use Rattle.xmltoproto.specs.Convert.{converted, source_in, Converts}
use Rattle.xmltoproto.proofs.Converting.{converted-length}
use Rattle.wiresheet.specs.SameSource.{SameBytes, SameSource, PrintedPlain}
use Rattle.wiresheet.specs.Sheet.{sheet}
use Rattle.wiresheet.proofs.Unique.{source-decides, sheet-decides}

-- ---- what a call that printed left

module _ (doc : List ℕ) (R B : ℕ) (out out' : List ℕ) {r : Answer} (c : Converts doc R B out out' r) {n : ℕ} (e : r ≡ Ok n) where
  module _ (s : Schema) (is : answer_of doc R B ≡ accepted s) where
    pub source-length : length (source s) ≡ n
    source-length = converted-length (accepted s) (length out) n (sym (c.is ∙ ap (λ x. converted x (length out)) is) ∙ e)

    -- the first n bytes are the source
    pub left-source : take n out' ≡ source s
    unfolding output_after
    left-source =
        let o : out' ≡ source s ++ drop n out = c.output ∙ ap (λ x. output_after x (source_in (answer_of doc R B)) out) e ∙ ap (λ x. source_in x ++ drop n out) is in
        ap (take n) o ∙ take_at (source s) (drop n out) n source-length

  -- and there are n
  left-by : (w : Whole) → answer_of doc R B ≡ w → length (take n out') ≡ n
  left-by (accepted s) is = ap length (left-source s is) ∙ source-length s is
  left-by (refused_by q) is =
      let f : r ≡ Err q = c.is ∙ ap (λ x. converted x (length out)) is in
      absurd (let z : ◌≡◌ {A = ℕ} 0 1 = cc in omega arith)

  pub left-length : length (take n out') ≡ n
  left-length = left-by (answer_of doc R B) refl

-- ---- two calls

module _ (docA : List ℕ) (RA BA : ℕ) (outA outA' : List ℕ) (docB : List ℕ) (RB BB : ℕ) (outB outB' : List ℕ) {a b : Answer} (ca : Converts docA RA BA outA outA' a) (cb : Converts docB RB BB outB outB' b) where
  same-bytes : {n m : ℕ} → a ≡ Ok n → b ≡ Ok m → take n outA' ≡ take m outB' → SameBytes n outA' m outB'
  same-bytes ea eb e = (sym (left-length docA RA BA outA outA' ca ea) ∙ ap length e ∙ left-length docB RB BB outB outB' cb eb, e)

  -- of any documents, the bytes that were compared
  pub same-printed : {n m : ℕ} → a ≡ Ok n → b ≡ Ok m → {x y : List ℕ} → x ≡ piece outA' 0 n → y ≡ piece outB' 0 m → {v : Bool} → v ≡ same x y
      → IsTrue v ↔ SameSource a outA' b outB'
  same-printed {n} {m} ea eb {x} {y} ex ey ev =
      rw (ea, eb) (
        (λ t. same-bytes ea eb (sym ex ∙ same-equal x y (sym ev ∙ t) ∙ ey)),
        (λ h. ev ∙ equal-same (ex ∙ h.1 ∙ sym ey)),
      )

  -- of plain ones, the sheets
  pub decided : (s t : Schema) (n m : ℕ) → PrintedPlain (answer_of docA RA BA) a s n → PrintedPlain (answer_of docB RB BB) b t m → SameBytes n outA' m outB' ↔ (sheet s ≡ sheet t)
  decided s t n m p q =
      let f : take n outA' ≡ source s = left-source docA RA BA outA outA' ca p.printed s p.is in
      let g : take m outB' ≡ source t = left-source docB RB BB outB outB' cb q.printed t q.is in (
        (λ h. source-decides s t p.plain q.plain (sym f ∙ h.1 ∙ g)),
        (λ e. same-bytes p.printed q.printed (f ∙ sheet-decides s t e ∙ sym g)),
      )
