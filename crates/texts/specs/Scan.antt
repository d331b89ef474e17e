-- Where a run of bytes that pass a test ends: vocabulary for all rules.
use Rattle.std.specs.Prelude.{Bool, not, List, ℕ, ◌+◌, eqb, ltb, drop}
use Rattle.std.specs.List.{prefix_len}

-- how many bytes at the front pass the test: the library's word, under another name
abbrev pub count_while : (ℕ → Bool) → List ℕ → ℕ
count_while p s = prefix_len p s

-- the first place from `at` on whose byte fails the test, or the end; `at` if it is past the end
abbrev pub scan : (ℕ → Bool) → List ℕ → ℕ → ℕ
scan p s at = at + prefix_len p (drop at s)

-- the test that passes what fails q
abbrev pub until : (ℕ → Bool) → ℕ → Bool
until q x = not (q x)

-- the byte x is b
abbrev pub is : ℕ → ℕ → Bool
is b x = eqb x b

-- ASCII, as Rules: Limits and refusals asks of every byte: below 128
unfoldable pub is_ascii : ℕ → Bool
is_ascii b = ltb b 128
