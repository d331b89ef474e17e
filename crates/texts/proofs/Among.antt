-- Laws of `among`: a text is compared with one after another, or the list is split.
use Rattle.std.proofs.Common.{◌≡◌, sym, ap, ◌∙◌, Bool, true, false, List, ◌∷◌, ◌++◌, ℕ, suc, ◌+◌, ◌≤◌, ◌<◌, add-one, length, drop, get_or, drop_of_length-le, drop-cons, map, Bor}
use Rattle.std.proofs.lemmas.List.Folds.{list_any-append}
use Rattle.texts.specs.Choice.{◌or◌}
use Rattle.texts.specs.Text.{same}
use Rattle.texts.specs.Lists.{among}

pub among-append : (w : List ℕ) (k l : List (List ℕ)) → among w (k ++ l) ≡ (among w k or among w l)
unfolding among
among-append w k l = list_any-append (same w) k l

-- ---- a loop over the texts of a slice, at i

abbrev pub texts : List (Bor (List ℕ)) → List (List ℕ)
texts names = map (λ r. r.now) names

module _ (w : List ℕ) (names : List (Bor (List ℕ))) (i : ℕ) (inv : among w (texts (drop i names)) ≡ among w (texts names)) where
  module _ (h : i < length names) (d : Bor (List ℕ)) {b : Bool} (e : b ≡ same w (get_or names i d).now) where
    split : among w (texts (get_or names i d ∷ drop (suc i) names)) ≡ among w (texts names)
    split = ap (λ l. among w (texts l)) (sym (drop-cons names i d h)) ∙ inv

    pub listed-here : b ≡ true → true ≡ among w (texts names)
    unfolding among
    listed-here t = rw (sym e ∙ t) at split

    pub listed-on : b ≡ false → among w (texts (drop (i + 1) names)) ≡ among w (texts names)
    unfolding among
    listed-on t = rw add-one (rw (sym e ∙ t) at split)

  pub listed-nowhere : length names ≤ i → false ≡ among w (texts names)
  unfolding among
  listed-nowhere h = rw (drop_of_length-le names h) at inv
