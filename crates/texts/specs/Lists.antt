-- Functions on lists: vocabulary for all rules.
use Rattle.std.specs.Prelude.{Bool, true, false, List, [], ◌∷◌, ◌++◌, ℕ, ◌+◌, flat_map}
use Rattle.std.specs.List.{list_any, list_all}
use Rattle.std.specs.Simd.Lanes.{Each1}
use Rattle.texts.specs.Text.{same}

-- the text has no bytes
abbrev pub is_empty : List ℕ → Bool
is_empty [] = true
is_empty (b ∷ s) = false

-- the texts that f gives for the elements, one after another
unfoldable pub each : {A : Type 0} → (A → List ℕ) → List A → List ℕ
each f l = flat_map f l

-- the same, where f is given each element's number too, counted from n
unfoldable pub numbered : {A : Type 0} → (ℕ → A → List ℕ) → ℕ → List A → List ℕ
numbered f n [] = []
numbered f n (a ∷ l) = f n a ++ numbered f (n + 1) l

-- the test holds of some element
unfoldable pub any : (ℕ → Bool) → List ℕ → Bool
any p l = list_any p l

-- the test holds of every element
unfoldable pub all : (ℕ → Bool) → List ℕ → Bool
all p l = list_all p l

-- P holds of every element
unfoldable pub Every : {A : Type 0} → (A → Type 0) → List A → Type 0
Every P l = Each1 P l

-- the text w is one of these
unfoldable pub among : List ℕ → List (List ℕ) → Bool
among w l = list_any (same w) l
