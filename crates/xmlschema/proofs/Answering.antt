-- Laws of the whole answer: 1, 2, 10, then what reading makes.
use Rattle.std.proofs.Common.{◌≡◌, refl, List, ⊎_elim, ℕ, ◌≤◌, ◌<◌, arith, length, Result, Err, lt-ltb, le-ltb}
use Rattle.texts.specs.Scan.{scan, is_ascii}
use Rattle.refusals.specs.declared.Refusal.{Refusal}
use Rattle.refusals.specs.declared.Refusal.TheVariants.{TooLong, NoWorkSpace, NotAscii}
use Rattle.model.specs.declared.Model.{Model}
use Rattle.builder.specs.Limits.{highest, max_document, min_records, min_text}
use Rattle.xmlschema.specs.Whole.{reading, answer_of}
use Rattle.xmlschema.specs.Read.{shown, ReadInto}

module _ (doc rec text : List ℕ) where
  -- a refusal before anything is written
  pub answer-long : max_document < length doc → ReadInto doc rec text (Err TooLong) rec text
  unfolding answer_of
  answer-long h = record { is = rw (lt-ltb max_document (length doc) h); untouched = λ z. (refl, refl) }

  module _ (h : length doc ≤ max_document) where
    pub answer-records : length rec < min_records → ReadInto doc rec text (Err NoWorkSpace) rec text
    unfolding answer_of
    answer-records k = record { is = rw (le-ltb max_document (length doc) h, lt-ltb (length rec) min_records k); untouched = λ z. (refl, refl) }

    module _ (k : min_records ≤ length rec) where
      pub answer-text : length text < min_text → ReadInto doc rec text (Err NoWorkSpace) rec text
      unfolding answer_of
      answer-text t = record { is = rw (le-ltb max_document (length doc) h, le-ltb (length rec) min_records k, lt-ltb (length text) min_text t); untouched = λ z. (refl, refl) }

      module _ (t : min_text ≤ length text) {at : ℕ} (e : at ≡ scan is_ascii doc 0) where
        pub answer-high : at < length doc → ReadInto doc rec text (Err (NotAscii at)) rec text
        unfolding answer_of
        answer-high l = record { is = rw (le-ltb max_document (length doc) h, le-ltb (length rec) min_records k, le-ltb (length text) min_text t, ← e, lt-ltb at (length doc) l); untouched = λ z. (refl, refl) }

        pub answer-read : length doc ≤ at → {r : Result Model Refusal} {rec' text' : List ℕ} → shown r rec' text' ≡ reading highest doc → ReadInto doc rec text r rec' text'
        unfolding answer_of
        answer-read l q =
            record {
              is = rw (le-ltb max_document (length doc) h, le-ltb (length rec) min_records k, le-ltb (length text) min_text t, ← e, le-ltb at (length doc) l) q;
              untouched = λ z. absurd (⊎_elim (λ a. omega (arith, k, a)) (λ a. omega (arith, t, a)) z);
            }
