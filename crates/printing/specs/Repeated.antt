-- What a loop prints: vocabulary for Rules: Names.
use Rattle.std.specs.Prelude.{List, [], ◌++◌, ℕ, zero, suc}

-- f 0, f 1 and so on, n texts one after another
unfoldable pub up_to : (ℕ → List ℕ) → ℕ → List ℕ
up_to f zero = []
up_to f (suc n) = up_to f n ++ f n
