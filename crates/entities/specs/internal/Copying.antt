-- What decoding has written so far.
use Rattle.std.specs.Prelude.{◌≡◌, List, ℕ, ◌+◌, ◌≤◌, length, take}
use Rattle.std.proofs.lemmas.List.Edits.{sets}
use Rattle.texts.specs.Scan.{scan, until, is}
use Rattle.entities.specs.Entities.{decoded}

-- the first i bytes of s have no `&`, and `after` is dst with them from `at` on
pub record PlainTo (s dst : List ℕ) (at : ℕ) (after : List ℕ) (i : ℕ) : Type 0 where
  pub left : after ≡ sets dst at (take i s)
  pub lacks : scan (until (is 38)) s i ≡ scan (until (is 38)) s 0
  pub within : i ≤ length s

-- `after` is dst with the text s, decoded, from `to` up to `end`
pub record RestInto (s dst : List ℕ) (to end : ℕ) (after : List ℕ) : Type 0 where
  pub left : after ≡ sets dst to (decoded s)
  pub ends : end ≡ to + length (decoded s)
