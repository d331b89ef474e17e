-- Laws of the records: what a store of an entry changes, and what it leaves.
use Rattle.std.proofs.Common.{◌≡◌, refl, sym, ap, ◌∙◌, List, [], ◌∷◌, ◌++◌, ℕ, zero, suc, ◌+◌, ◌*◌, ◌≤◌, ◌<◌, add-one, arith, ltb, length, get_or, set, length-append, get_or-set_other, ltb-true, ltb-false}
use lib.ListN.{get_or-append}
use lib.Seq.{sets, set-append_left, set_at, get_or_at}
use Rattle.texts.proofs.Choosing.{by-test}
use Rattle.texts.proofs.Stores.{get_or-sets-below, get_or-sets-above, get_or-sets-in}
use Rattle.model.specs.Schema.{no_item}
use Rattle.model.specs.internal.Store.{entry_at, words_of, item_of, items_of}
use Rattle.model.specs.declared.Entry.{Entry}

-- case split: a < b, or not
pub by_less {ℓ} : {X : Type ℓ} (a b : ℕ) → (a < b → X) → (b ≤ a → X) → X
by_less a b f g = by-test (ltb a b) (λ t. f (ltb-true a b t)) (λ t. g (ltb-false a b t))

-- ---- an entry

-- entries of equal words are equal
entry-words : (rec rec' : List ℕ) (i j : ℕ) → ((k : ℕ) → k < 10 → get_or rec' (15 * i + k) 0 ≡ get_or rec (15 * j + k) 0) → entry_at rec' i ≡ entry_at rec j
unfolding entry_at
entry-words rec rec' i j w =
    let zi : 15 * i + 0 ≡ 15 * i = omega arith in
    let zj : 15 * j + 0 ≡ 15 * j = omega arith in
    let w0 : get_or rec' (15 * i) 0 ≡ get_or rec (15 * j) 0 = ap (λ n. get_or rec' n 0) (sym zi) ∙ w 0 (omega arith) ∙ ap (λ n. get_or rec n 0) zj in
    rw (w0, w 1 (omega arith), w 2 (omega arith), w 3 (omega arith), w 4 (omega arith), w 5 (omega arith), w 6 (omega arith), w 7 (omega arith), w 8 (omega arith), w 9 (omega arith))

-- an entry that is read two words at a time from the third on
module _ (rec : List ℕ) (i : ℕ) where
  second-of : (n m : ℕ) → n + 1 ≡ m → {v : ℕ} → v ≡ get_or rec (15 * i + n + 1) 0 → v ≡ get_or rec (15 * i + m) 0
  second-of n m q {v} e =
      let z : 15 * i + n + 1 ≡ 15 * i + m = omega arith in e ∙ ap (λ k. get_or rec k 0) z

  pub entry-read : {kind owner name nlen second slen number given encoding elen : ℕ} → kind ≡ get_or rec (15 * i) 0 → owner ≡ get_or rec (15 * i + 1) 0
      → name ≡ get_or rec (15 * i + 2) 0 → nlen ≡ get_or rec (15 * i + 2 + 1) 0 → second ≡ get_or rec (15 * i + 4) 0 → slen ≡ get_or rec (15 * i + 4 + 1) 0
      → number ≡ get_or rec (15 * i + 6) 0 → given ≡ get_or rec (15 * i + 6 + 1) 0 → encoding ≡ get_or rec (15 * i + 8) 0 → elen ≡ get_or rec (15 * i + 8 + 1) 0
      → ◌≡◌ {A = Entry} (record { kind = kind; owner = owner; name = name; nlen = nlen; second = second; slen = slen; number = number; given = given; encoding = encoding; elen = elen }) (entry_at rec i)
  unfolding entry_at
  entry-read a b c d e f g h j k =
      rw (a, b, c, second-of 2 3 refl d, e, second-of 4 5 refl f, g, second-of 6 7 refl h, j, second-of 8 9 refl k)

module _ (rec : List ℕ) (i : ℕ) (e : Entry) where
  pub entry-same : 15 * i + 10 ≤ length rec → entry_at (sets rec (15 * i) (words_of e)) i ≡ e
  unfolding entry_at
  entry-same h =
      let w : (k : ℕ) → k < 10 → get_or (sets rec (15 * i) (words_of e)) (15 * i + k) 0 ≡ get_or (words_of e) k 0 = λ k b. get_or-sets-in (words_of e) rec (15 * i) k h b in
      let z : 15 * i + 0 ≡ 15 * i = omega arith in
      let w0 : get_or (sets rec (15 * i) (words_of e)) (15 * i) 0 ≡ e.kind = ap (λ n. get_or (sets rec (15 * i) (words_of e)) n 0) (sym z) ∙ w 0 (omega arith) in
      rw (w0, w 1 (omega arith), w 2 (omega arith), w 3 (omega arith), w 4 (omega arith), w 5 (omega arith), w 6 (omega arith), w 7 (omega arith), w 8 (omega arith), w 9 (omega arith))

  pub entry_other : (j : ℕ) → (j ≡ i → ⊥) → entry_at (sets rec (15 * i) (words_of e)) j ≡ entry_at rec j
  entry_other j n =
      entry-words rec (sets rec (15 * i) (words_of e)) j j
      (λ k b. by_less j i (λ l. get_or-sets-below (words_of e) rec (15 * i) (15 * j + k) (omega arith)) (λ l. get_or-sets-above (words_of e) rec (15 * i) (15 * j + k) (by_less i j (λ m. omega arith) (λ m. absurd (n (omega arith))))))

-- a store after an entry leaves it as it is
pub entry_set : (rec : List ℕ) (i v j : ℕ) → 15 * j + 15 ≤ i → entry_at (set rec i v) j ≡ entry_at rec j
entry_set rec i v j h = entry-words rec (set rec i v) j j (λ k b. get_or-set_other rec i (15 * j + k) v 0 (λ e. omega arith))

-- ---- all the items

-- equal entries give equal items
pub items-frame : (n : ℕ) (rec rec' t : List ℕ) → ((j : ℕ) → j < n → entry_at rec' j ≡ entry_at rec j) → items_of n rec' t ≡ items_of n rec t
unfolding items_of
items-frame zero rec rec' t f = refl
items-frame (suc n) rec rec' t f = rw (items-frame n rec rec' t (λ j h. f j (omega arith)), f n (omega arith))

pub length-items : (n : ℕ) (rec t : List ℕ) → length (items_of n rec t) ≡ n
unfolding items_of
length-items zero rec t = refl
length-items (suc n) rec t = length-append (items_of n rec t) _ ∙ rw (length-items n rec t) (omega arith)

pub get_or-items : (n : ℕ) (rec t : List ℕ) (j : ℕ) → j < n → get_or (items_of n rec t) j no_item ≡ item_of t (entry_at rec j)
unfolding items_of
get_or-items zero rec t j h = absurd (omega arith)
get_or-items (suc n) rec t j h =
    by_less j n
    (λ l. get_or-append (items_of n rec t) _ no_item j (rw length-items l) ∙ get_or-items n rec t j l)
    (λ l. let e : j ≡ n = omega arith in rw e (get_or_at (items_of n rec t) _ [] no_item n (length-items n rec t)))

items_more : (n : ℕ) (rec t : List ℕ) → items_of (n + 1) rec t ≡ items_of n rec t ++ (item_of t (entry_at rec n) ∷ [])
unfolding items_of
items_more n rec t = rw add-one

-- an entry stored behind the last item
pub items-put : (n : ℕ) (rec t : List ℕ) (e : Entry) → 15 * n + 10 ≤ length rec → items_of (n + 1) (sets rec (15 * n) (words_of e)) t ≡ items_of n rec t ++ (item_of t e ∷ [])
items-put n rec t e h =
    items_more n (sets rec (15 * n) (words_of e)) t
    ∙ rw (items-frame n rec (sets rec (15 * n) (words_of e)) t (λ j l. entry_other rec n e j (λ q. omega arith)), entry-same rec n e h)

-- an entry stored over item i
pub items-set : (n : ℕ) (rec t : List ℕ) (i : ℕ) (e : Entry) → 15 * i + 10 ≤ length rec → i < n → items_of n (sets rec (15 * i) (words_of e)) t ≡ set (items_of n rec t) i (item_of t e)
unfolding items_of
items-set zero rec t i e h b = absurd (omega arith)
items-set (suc n) rec t i e h b =
    by_less i n
    (λ l. rw (items-set n rec t i e h l, entry_other rec i e n (λ q. omega arith)) (sym (set-append_left (items_of n rec t) _ i (item_of t e) (rw length-items l))))
    (λ l. let q : i ≡ n = omega arith in
    rw (q, items-frame n rec (sets rec (15 * n) (words_of e)) t (λ j m. entry_other rec n e j (λ q. omega arith)), entry-same rec n e (omega arith))
    (sym (set_at (items_of n rec t) _ [] (item_of t e) n (length-items n rec t))))
