-- Choice by a computed test, and the connectives of tests: the library's, under short names.
use Rattle.std.specs.Prelude.{Bool, if◌then◌else◌, ◌||◌, ◌&&◌}

-- a if the test holds, else b
abbrev pub pick : {A : Type 0} → Bool → A → A → A
pick t a b = if t then a else b

-- either test holds
infixr 30 ◌or◌
abbrev pub ◌or◌ : Bool → Bool → Bool
s or t = s || t

-- both tests hold
infixr 40 ◌and◌
abbrev pub ◌and◌ : Bool → Bool → Bool
s and t = s && t
