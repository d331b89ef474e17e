-- Laws of pieces of a text.
use Rattle.std.proofs.Common.{◌≡◌, sym, List, ℕ, ◌+◌, ◌≤◌, arith, length, drop, get_or, length-drop, length-take-le}
use lib.ListN.{get_or-eq_default}
use Rattle.texts.specs.Text.{piece}

pub length-piece : (s : List ℕ) (a n : ℕ) → a + n ≤ length s → length (piece s a n) ≡ n
length-piece s a n h = length-take-le n (drop a s) (simp length-drop (omega arith))

pub byte_past : (s : List ℕ) (i : ℕ) → length s ≤ i → 0 ≡ get_or s i 0
byte_past s i h = sym (get_or-eq_default s 0 h)
