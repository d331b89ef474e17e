-- Laws of writing run by run: what is to be written from position i on is the run, then what comes
-- behind it.
use Rattle.std.proofs.Common.{◌≡◌, refl, sym, ap, ◌∙◌, Bool, true, false, List, [], ◌∷◌, ◌++◌, ℕ, ◌+◌, ◌-◌, ◌≤◌, ◌<◌, add-one, arith, eqb, ltb, length, take, drop, get_or, drop_of_length-le, drop-cons, drop-drop, rules, eqb-true}
use Rattle.texts.specs.Scan.{count_while, scan}
use Rattle.texts.specs.Text.{piece}
use Rattle.texts.specs.Lists.{each}
use Rattle.texts.specs.Choice.{pick, ◌or◌}
use Rattle.texts.proofs.Choosing.{by-test}
use Rattle.texts.proofs.Scanning.{count_yes, count_no}
use Rattle.printing.specs.Written.{written, Wrote}
use Rattle.printing.specs.declared.Output.{Output}
use Rattle.printing.proofs.Writing.{written-append, written-nothing}
use Rattle.escaping.specs.Escape.{escaped}
use Rattle.escaping.specs.internal.Escaping.{stands}

-- an escape that is longer than one byte is none of one byte
past : (c : Bool) (x y : List ℕ) {z : List ℕ} →
    2 ≤ length x → (length y ≡ 1 → y ≡ z) → length (pick c x y) ≡ 1 → pick c x y ≡ z
past true x y two rest h = absurd (omega arith)
past false x y two rest h = rest h

shown : (b : ℕ) → stands b ≡ true → escaped b ≡ b ∷ []
unfolding escaped stands
shown b t =
    past (eqb b 0) _ _ (omega arith)
    (past (eqb b 9) _ _ (omega arith)
    (past (eqb b 10) _ _ (omega arith)
    (past (eqb b 13) _ _ (omega arith)
    (past (eqb b 34) _ _ (omega arith)
    (past (eqb b 92) _ _ (omega arith)
    (past (ltb b 32 or eqb b 127) _ _ (omega arith) (λ _. refl))))))) (eqb-true _ 1 t)

run : (t : List ℕ) → each escaped t ≡ take (count_while stands t) t ++ each escaped (drop (count_while stands t) t)
unfolding each
run [] = refl
run (b ∷ t) =
    by-test (stands b)
    (λ v. rw (count_yes stands b t v, shown b v) (ap (λ r. b ∷ r) (run t)))
    (λ v. rw (count_no stands b t v))

run_at : (s : List ℕ) (i e : ℕ) → e ≡ scan stands s i → each escaped (drop i s) ≡ piece s i (e - i) ++ each escaped (drop e s)
run_at s i e q =
    let k = count_while stands (drop i s) in
    let z : e - i ≡ k = omega arith in
    rw (z, q, ← drop-drop k i s) (run (drop i s))

-- ---- the loop: what is left from i on makes the output what the whole text would have made it

pub record Runs (s : List ℕ) (o₀ o : Output) (i : ℕ) : Type 0 where
  pub is : written o (each escaped (drop i s)) ≡ written o₀ (each escaped s)

pub runs-start : {s : List ℕ} {o : Output} → Runs s o o 0
runs-start = record { is = refl }

nothing-left : (s : List ℕ) (i : ℕ) → length s ≤ i → each escaped (drop i s) ≡ []
unfolding each
nothing-left s i h = rw (drop_of_length-le s h)

module _ {s : List ℕ} {o₀ o : Output} {i : ℕ} (inv : Runs s o₀ o i) where
  pub runs-end : length s ≤ i → Wrote o₀ o (each escaped s)
  runs-end h = record { is = sym (written-nothing o) ∙ ap (written o) (sym (nothing-left s i h)) ∙ inv.is }

  module _ {e : ℕ} (q : e ≡ scan stands s i) {t : List ℕ} (f : t ≡ piece s i (e - i)) {o₁ : Output} (w : Wrote o o₁ t) where
    after : Runs s o₀ o₁ e
    after = record { is = ap (λ x. written x (each escaped (drop e s))) (w.is ∙ ap (written o) f) ∙ written-append o _ _ ∙ ap (written o) (sym (run_at s i e q)) ∙ inv.is }

    pub runs-last : length s ≤ e → Wrote o₀ o₁ (each escaped s)
    runs-last h = record { is = sym (written-nothing o₁) ∙ ap (written o₁) (sym (nothing-left s e h)) ∙ after.is }

    pub runs-on : e < length s → {o₂ : Output} → Wrote o₁ o₂ (escaped (get_or s e 0)) → Runs s o₀ o₂ (e + 1)
    unfolding each
    runs-on h {o₂} v =
        let d : each escaped (drop e s) ≡ escaped (get_or s e 0) ++ each escaped (drop (e + 1) s) = rw (add-one, drop-cons s e 0) in
        record { is = ap (λ x. written x (each escaped (drop (e + 1) s))) v.is ∙ written-append o₁ _ _ ∙ ap (written o₁) (sym d) ∙ after.is }

pub ruleset runs = (runs-start, runs-end, runs-last, runs-on, rules)
