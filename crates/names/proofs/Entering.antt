-- Laws of the entries: the tests of a name, and the answer after them.
use Rattle.std.proofs.Common.{◌≡◌, refl, ap, ◌∙◌, List, ℕ, ◌≤◌, ◌<◌, length, lt-ltb, le-ltb, Ok, Err, IsErrAnd}
use Rattle.texts.specs.Scan.{scan, is_ascii}
use Rattle.std.proofs.lemmas.Result.{err_from_is_err_and}
use Rattle.refusals.specs.Figures.{Answer}
use Rattle.refusals.specs.declared.Refusal.{Refusal}
use Rattle.refusals.specs.declared.Refusal.TheVariants.{TooLong, NotAscii}
use Rattle.printing.specs.Output.{output_after, Finishes}
use Rattle.names.specs.Entry.{Tested, tested, tested_two, answer_after, Answers}

-- ---- one name

pub test-long : (s : List ℕ) → 32768 < length s → Err TooLong ≡ tested s
unfolding tested
test-long s h = rw (lt-ltb 32768 (length s) h)

module _ (s : List ℕ) (h : length s ≤ 32768) {at : ℕ} (e : at ≡ scan is_ascii s 0) where
  pub test-high : at < length s → Err (NotAscii at) ≡ tested s
  unfolding tested
  test-high l = rw (le-ltb 32768 (length s) h, ← e, lt-ltb at (length s) l)

  pub test-fine : length s ≤ at → Ok tt ≡ tested s
  unfolding tested
  test-fine l = rw (le-ltb 32768 (length s) h, ← e, le-ltb at (length s) l)

-- ---- two names

pub two-long : (v n : List ℕ) → 32768 < length v → Err TooLong ≡ tested_two v n
unfolding tested_two
two-long v n h = rw (lt-ltb 32768 (length v) h)

module _ (v n : List ℕ) (h : length v ≤ 32768) where
  pub two-other-long : 32768 < length n → Err TooLong ≡ tested_two v n
  unfolding tested_two
  two-other-long k = rw (le-ltb 32768 (length v) h, lt-ltb 32768 (length n) k)

  module _ (k : length n ≤ 32768) {at : ℕ} (e : at ≡ scan is_ascii v 0) where
    pub two-high : at < length v → Err (NotAscii at) ≡ tested_two v n
    unfolding tested_two
    two-high l = rw (le-ltb 32768 (length v) h, le-ltb 32768 (length n) k, ← e, lt-ltb at (length v) l)

    module _ (l : length v ≤ at) {at₂ : ℕ} (e₂ : at₂ ≡ scan is_ascii n 0) where
      pub two-other-high : at₂ < length n → Err (NotAscii at₂) ≡ tested_two v n
      unfolding tested_two
      two-other-high m = rw (le-ltb 32768 (length v) h, le-ltb 32768 (length n) k, ← e, le-ltb at (length v) l, ← e₂, lt-ltb at₂ (length n) m)

      pub two-fine : length n ≤ at₂ → Ok tt ≡ tested_two v n
      unfolding tested_two
      two-fine m = rw (le-ltb 32768 (length v) h, le-ltb 32768 (length n) k, ← e, le-ltb at (length v) l, ← e₂, le-ltb at₂ (length n) m)

-- ---- the answer: t is what the tests say

module _ {t : Tested} (text out : List ℕ) where
  -- a refusal that `?` returns
  pub entry-refused : {q : Refusal} → t ≡ Err q → {r : Answer} → IsErrAnd r (λ e. e ≡ q) → Answers t text out out r
  unfolding answer_after output_after
  entry-refused {q} e {r} h =
      let p = err_from_is_err_and r h in
      let g : r ≡ Err q = p.1 ∙ ap (λ x. Err x) p.2 in
      record { is = rw e g; output = rw g refl }

  pub entry-finished : {u : Unit {0}} → t ≡ Ok u → {out' : List ℕ} {r : Answer} → Finishes text out out' r → Answers t text out out' r
  unfolding answer_after
  entry-finished e f = record { is = rw e f.is; output = f.output }

pub ruleset tests = (test-long, test-high, test-fine, two-long, two-other-long, two-high, two-other-high, two-fine)
