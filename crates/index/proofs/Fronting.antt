-- An item put in front of a list of the index: what changes, and what stays.
use Rattle.std.proofs.Common.{◌≡◌, ◌∙◌, List, ℕ, ◌+◌, ◌<◌, length, get_or, set, length-set, get_or-set_same, get_or-set_other}
use Rattle.index.specs.internal.Index.{fronted}

module _ (ix : List ℕ) (head at i : ℕ) where
  pub fronted-length : length (fronted ix head at i) ≡ length ix
  fronted-length = length-set (set ix at (get_or ix head 0)) head (i + 1) ∙ length-set ix at (get_or ix head 0)

  pub fronted-head : head < length ix → get_or (fronted ix head at i) head 0 ≡ i + 1
  fronted-head h = get_or-set_same (set ix at (get_or ix head 0)) head (i + 1) 0 (rw length-set h)

  pub fronted-at : at < length ix → (at ≡ head → ⊥) → get_or (fronted ix head at i) at 0 ≡ get_or ix head 0
  fronted-at h n = get_or-set_other (set ix at (get_or ix head 0)) head at (i + 1) 0 n ∙ get_or-set_same ix at (get_or ix head 0) 0 h

  pub fronted-other : (k : ℕ) → (k ≡ head → ⊥) → (k ≡ at → ⊥) → get_or (fronted ix head at i) k 0 ≡ get_or ix k 0
  fronted-other k n m = get_or-set_other (set ix at (get_or ix head 0)) head k (i + 1) 0 n ∙ get_or-set_other ix at k (get_or ix head 0) 0 m
