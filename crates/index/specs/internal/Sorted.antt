-- Internal. The names that a schema declares, sorted, while items are added one by one.
use Rattle.std.specs.Prelude.{Option, Result, Ok, Err, ◌≡◌, Bool, true, false, List, [], ◌∷◌, ℕ, ◌+◌, ◌≤◌, ◌<◌, eqb, ltb, length, get_or, take}
use Rattle.texts.specs.Choice.{pick}
use Rattle.model.specs.Schema.{Item, Schema, is_named, item_at, positions_from, last, a_type, a_composite, an_enum}
use Rattle.index.specs.Declarations.{declares, declared_by, declaration_code}
use Rattle.std.specs.declared.cmp.Ordering.{Ordering}
use Rattle.std.specs.declared.cmp.Ordering.TheVariants.{Less, Equal, Greater}

-- ---- two names

-- the lexicographic order of two texts
unfoldable pub order : List ℕ → List ℕ → Ordering
order [] [] = Equal
order [] (y ∷ ys) = Less
order (x ∷ xs) [] = Greater
order (x ∷ xs) (y ∷ ys) =
    elim (eqb x y) [ true ↦ order xs ys | false ↦ pick (ltb x y) Less Greater ]

-- ---- declarations

-- the last of the first n items that pass a test
abbrev pub last_by : (Item → Bool) → ℕ → Schema → Option ℕ
last_by p n s = last (positions_from 0 p (take n s.items))

-- what a name is declared as among the first k items
unfoldable pub code_in : Schema → ℕ → List ℕ → ℕ
code_in s k name =
    let last_of : ℕ → Option ℕ = λ kind. last_by (is_named kind name) k s in
    declaration_code (declared_by (last_of an_enum) (last_of a_composite) (last_of a_type))

-- what the item at i declares its name as, if it declares one
abbrev pub worth : Schema → ℕ → ℕ
worth s i = pick (eqb (item_at s i).kind a_type) (i + 2) 1

-- ---- sorted names: an array of positions of items, of which the first n are in use

-- the name of the item whose position stands at a
abbrev pub name_at : Schema → List ℕ → ℕ → List ℕ
name_at s names a = (item_at s (get_or names a 0)).name

-- the names rise strictly
pub record Rising (s : Schema) (names : List ℕ) (n : ℕ) : Type 0 where
  pub long : n ≤ length names
  pub up : (a b : ℕ) → a < b → b < n → order (name_at s names a) (name_at s names b) ≡ Less

-- what a search answers: Ok p where the name stands, or Err p where it would be inserted
pub record Placed (s : Schema) (names : List ℕ) (n : ℕ) (name : List ℕ) (r : Result ℕ ℕ)
    : Type 0 where
  pub at : (p : ℕ) → r ≡ Ok p → (p < n) × (name_at s names p ≡ name)
  pub before : (p : ℕ) → r ≡ Err p
      → (p ≤ n)
      × ((a : ℕ) → a < p → order (name_at s names a) name ≡ Less)
      × ((a : ℕ) → p ≤ a → a < n → order (name_at s names a) name ≡ Greater)

-- i stands at p, and what stood from p on has moved up by one
pub record Inserted (old : List ℕ) (n p i : ℕ) (new : List ℕ) : Type 0 where
  pub long : length new ≡ length old
  pub low : (a : ℕ) → a < p → get_or new a 0 ≡ get_or old a 0
  pub here : get_or new p 0 ≡ i
  pub high : (a : ℕ) → p ≤ a → a < n → get_or new (a + 1) 0 ≡ get_or old a 0

-- the names that the first k items declare, each once, as the item that decides what it is declared
-- as
pub record Ordered (s : Schema) (k : ℕ) (names : List ℕ) (n : ℕ) : Type 0 where
  pub most : length s.items ≤ 1024
  pub room : 1024 ≤ length names
  pub few : n ≤ k
  pub rising : Rising s names n
  pub below : (a : ℕ) → a < n → get_or names a 0 < k
  pub is : (a : ℕ) → a < n → worth s (get_or names a 0) ≡ code_in s k (name_at s names a)
  pub none : (name : List ℕ) → ((a : ℕ) → a < n → name_at s names a ≡ name → ⊥)
      → code_in s k name ≡ 0

-- all names that the schema declares, in order
abbrev pub InOrder : Schema → List ℕ → ℕ → Type 0
InOrder s names n = Ordered s (length s.items) names n

-- the item at i declares the name that stands at p already
pub record Meeting (s : Schema) (i : ℕ) (names : List ℕ) (n p : ℕ) : Type 0 where
  pub ordered : Ordered s i names n
  pub inside : i < length s.items
  pub declaring : declares (item_at s i).kind ≡ true
  pub within : p < n
  pub same : name_at s names p ≡ (item_at s i).name
