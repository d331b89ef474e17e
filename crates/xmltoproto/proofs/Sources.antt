-- Laws of the parts of the source; w, u, .. are the results of calls.
use Rattle.std.proofs.Common.{◌≡◌, refl, sym, ap, subst, ◌∙◌, Bool, true, false, List, [], ◌∷◌, ◌++◌, append_assoc, ℕ, suc, ◌+◌, ◌<◌, ◌^◌, add-zero, arith, eqb, length, get_or}
use Rattle.texts.specs.Choice.{pick, ◌and◌}
use Rattle.texts.specs.Text.{ascii}
use Rattle.texts.specs.Lists.{each}
use Rattle.printing.specs.Printed.{skipped}
use Rattle.printing.specs.Written.{Wrote}
use Rattle.printing.specs.declared.Output.{Output}
use Rattle.printing.specs.internal.Standing.{Standing}
use Rattle.xmltoproto.proofs.Outputs.{blank, printed-of}
use Rattle.printing.proofs.Again.{standing-within}
use Rattle.names.specs.Conversions.{camel_to_screaming_snake, prefix_of}
use Rattle.model.specs.Schema.{Item, Schema, no_item, item_at, positions_from, all_of, a_composite}
use Rattle.xmltoproto.specs.Composites.{is_printed, printed_composites}
use Rattle.xmltoproto.specs.Source.{package_line, value_text}

-- ---- header and enums

pub package-none : (w : List ℕ) {o : Output} → length w ≡ 0 → Wrote o o (package_line w)
unfolding package_line
package-none [] h = blank
package-none (x ∷ w) h = absurd (omega arith)

module _ {o o₁ : Output} where
  pub package-some : (w : List ℕ) → (length w ≡ 0 → ⊥) → Wrote o o₁ (ascii "package " ++ w ++ ascii ";\n\n") → Wrote o o₁ (package_line w)
  unfolding package_line
  package-some [] h p = absurd (h refl)
  package-some (x ∷ w) h p = p

  -- the prefix of a value stands after its two spaces
  pub value-standing : (name : List ℕ) (it : Item) {q : ℕ} → length o.bytes.now < 2 ^ 63 → q ≡ skipped o.at 2 → Wrote o o₁ (value_text name it) → Standing (prefix_of name) o₁.bytes.now q o₁.at
  unfolding value_text
  value-standing name it l e p =
      standing-within (ascii "  ") (prefix_of name) (camel_to_screaming_snake it.name ++ (ascii " = " ++ (it.second ++ ascii ";\n"))) l e (printed-of (simp append_assoc at p))

-- ---- composites

-- the texts of those that are printed, among all composites
chosen-each : (f : ℕ → List ℕ) (p q : Item → Bool) (xs : List Item) (k : ℕ) (ys : List Item) → ((j : ℕ) → get_or ys j no_item ≡ get_or xs (k + j) no_item)
    → each (λ c. pick (q (get_or xs c no_item)) (f c) []) (positions_from k p ys) ≡ each f (positions_from k (λ it. p it and q it) ys)
unfolding each positions_from
chosen-each f p q xs k [] h = refl
chosen-each f p q xs k (y ∷ ys) h =
    go (p y) (q y) (ap q (sym (h 0 ∙ ap (λ n. get_or xs n no_item) (add-zero k)))) (chosen-each f p q xs (k + 1) ys (λ j. h (suc j) ∙ ap (λ n. get_or xs n no_item) (more j)))
  where
    more : (j : ℕ) → k + suc j ≡ k + 1 + j
    more j = omega arith

    go : (a b : Bool) → q (get_or xs k no_item) ≡ b → each (λ c. pick (q (get_or xs c no_item)) (f c) []) (positions_from (k + 1) p ys) ≡ each f (positions_from (k + 1) (λ it. p it and q it) ys)
        → each (λ c. pick (q (get_or xs c no_item)) (f c) []) (pick a (k ∷ positions_from (k + 1) p ys) (positions_from (k + 1) p ys))
        ≡ each f (pick (a and b) (k ∷ positions_from (k + 1) (λ it. p it and q it) ys) (positions_from (k + 1) (λ it. p it and q it) ys))
    go true true z i = ap (λ (b : Bool). pick b (f k) [] ++ each (λ c. pick (q (get_or xs c no_item)) (f c) []) (positions_from (k + 1) p ys)) z ∙ ap (λ (l : List ℕ). f k ++ l) i
    go true false z i = ap (λ (b : Bool). pick b (f k) [] ++ each (λ c. pick (q (get_or xs c no_item)) (f c) []) (positions_from (k + 1) p ys)) z ∙ i
    go false b z i = i

add-zero-left : (xs : List Item) (j : ℕ) → get_or xs j no_item ≡ get_or xs (0 + j) no_item
add-zero-left xs j = let z : 0 + j ≡ j = omega arith in rw z

pub composites-printed : (f : ℕ → List ℕ) (s : Schema) {o o' : Output}
    → Wrote o o' (each (λ c. pick (is_printed (item_at s c)) (f c) []) (all_of a_composite s)) → Wrote o o' (each f (printed_composites s))
unfolding all_of printed_composites
composites-printed f s {o} {o'} d =
    subst (λ (x : List ℕ). Wrote o o' x) (chosen-each f (λ it. eqb it.kind a_composite) is_printed s.items 0 s.items (add-zero-left s.items)) d
