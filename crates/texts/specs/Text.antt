-- Literals, pieces, equality and prefixes of texts: vocabulary for all rules.
use Rattle.std.specs.Prelude.{Bool, List, [], ◌∷◌, ℕ, nat_eq, take, drop}
use Rattle.std.specs.Str.{bytes_eq}
use Rattle.std.specs.List.{starts_with as has_front}
use Prim.Native.Char.{code}
use Prim.Native.String.{String, [] as none, ◌∷◌ as ◌then◌}

-- the bytes of a quoted ASCII text
abbrev pub ascii : String → List ℕ
ascii none = []
ascii (c then s) = code c ∷ ascii s

-- the n bytes of s from the place a on, or as many as there are
abbrev pub piece : List ℕ → ℕ → ℕ → List ℕ
piece s a n = take n (drop a s)

-- two texts have the same bytes
unfoldable pub same : List ℕ → List ℕ → Bool
same a b = bytes_eq a b

-- the text n stands at the front of s
unfoldable pub starts_with : List ℕ → List ℕ → Bool
starts_with n s = has_front nat_eq s n
