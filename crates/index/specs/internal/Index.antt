-- The index over a schema's items, as an array. Internal: the crates above are promised the model's
-- own lists and searches (`under`, `last_named`).
--
-- The numbers of an item: the next item of its kind and owner; the item before it in its hash
-- chain or, for a field, what its type name is declared as; and for each kind the first
-- item under it. Then, for each chain, the last item in it.
use Rattle.std.specs.Prelude.{Option, Some, None, ◌≡◌, Bool, true, false, List, ℕ, zero, suc, ◌+◌, ◌-◌, ◌*◌, ◌/◌, ◌%◌, ◌≤◌, ◌<◌, T, eqb, ltb, length, get_or, take, set}
use Rattle.std.specs.Int.Bits.{bit_and, bit_xor}
use Rattle.texts.specs.Choice.{pick, ◌and◌}
use Rattle.texts.specs.Text.{piece, same}
use Rattle.swar.specs.Word.{word_of}
use Rattle.model.specs.Schema.{Item, Schema, item_at, positions_from, last, next_under, a_type, a_field}
use Rattle.index.specs.Declarations.{declares}
use Rattle.index.specs.Blank.{kinds, per_item, mask_of}
use Rattle.index.specs.Declarations.{declaration_of, declaration_code}

-- a position as the index holds it
abbrev pub code : Option ℕ → ℕ
code None = 0
code (Some i) = i + 1

-- item i pushed to the front of the list whose head is at `head`; its own link is at `at`
abbrev pub fronted : List ℕ → ℕ → ℕ → ℕ → List ℕ
fronted ix head at i = set (set ix at (get_or ix head 0)) head (i + 1)

-- ---- links: the first number of an item, and the last ten

-- items from i on are linked: `first` from their owners, `next` from one to the next
pub record Linked (s : Schema) (i : ℕ) (ix : List ℕ) : Type 0 where
  pub first : (k o : ℕ) → k < kinds → o < length s.items
      → get_or ix (per_item * o + 2 + k) 0 ≡ code (next_under k o i s)
  pub next : (j : ℕ) → i ≤ j → j < length s.items
      → (item_at s j).kind < kinds → (item_at s j).owner < length s.items
      → get_or ix (per_item * j) 0
      ≡ code (next_under (item_at s j).kind (item_at s j).owner (j + 1) s)

-- ---- hash chains: the second number of an item that declares a name, and the heads at the end

-- a text of less than 8 bytes as one number
unfoldable pub short_word : List ℕ → ℕ
short_word s =
    let n = length s in
    let byte : ℕ → ℕ = λ i. get_or s i 0 in
    let bytes = byte 0 + byte (n / 2) * 256 + byte (n - 1) * 65536 + n * 16777216 in
    let halves = word_of (piece s 0 4) + word_of (piece s (n - 4) 4) * 4294967296 in
    pick (ltb n 4) (pick (eqb n 0) 0 bytes) halves

-- a word mixed into a number
unfoldable pub mix : ℕ → ℕ → ℕ
mix h w = bit_xor (h % 1152921504606846976 * 9) w

-- h with the words of s from i on mixed in, k at most; the last one ends with s
unfoldable pub words_from : ℕ → ℕ → ℕ → List ℕ → ℕ
words_from zero h i s = h
words_from (suc k) h i s =
    elim (ltb (i + 8) (length s)) [
      | true ↦ words_from k (mix h (word_of (piece s i 8))) (i + 8) s
      | false ↦ mix h (word_of (piece s (length s - 8) 8))
    ]

-- a text of 8 bytes or more as one number
abbrev pub long_word : List ℕ → ℕ
long_word s = words_from (length s) (length s) 0 s

-- ten bits of a number
unfoldable pub narrowed : ℕ → ℕ
narrowed w = (w % 4294967296 * 1981491285 + w / 4294967296 * 1113222403) / 1073741824 % 1024

-- the hash of a text, below 1,024
unfoldable pub hash : List ℕ → ℕ
hash s = narrowed (pick (ltb (length s) 8) (short_word s) (long_word s))

-- b is the hash of a name
pub record HashOf (name : List ℕ) (b : ℕ) : Type 0 where
  pub is : b ≡ hash name
  pub low : b < 1024

-- the chain that a name is in, by its hash and the number of items
unfoldable pub chain_of : Schema → List ℕ → ℕ
chain_of s name = bit_and (hash name) (mask_of (length s.items))

-- p is where the head of a name's chain stands
pub record HeadOf (s : Schema) (name : List ℕ) (p : ℕ) : Type 0 where
  pub is : p ≡ per_item * length s.items + chain_of s name
  pub low : chain_of s name ≤ mask_of (length s.items)

-- an item that declares a name in chain b
unfoldable pub hashed : Schema → ℕ → Item → Bool
hashed s b it = declares it.kind and eqb (chain_of s it.name) b

-- the last of the first n items that is in chain b
unfoldable pub last_hashed : ℕ → ℕ → Schema → Option ℕ
last_hashed b n s = last (positions_from 0 (hashed s b) (take n s.items))

-- the first n items are in their chains: a head is the last item of its chain, and each leads to
-- the one before it
pub record Chained (s : Schema) (n : ℕ) (ix : List ℕ) : Type 0 where
  pub few : length s.items ≤ 1024
  pub head : (b : ℕ) → b ≤ mask_of (length s.items)
      → get_or ix (per_item * length s.items + b) 0 ≡ code (last_hashed b n s)
  pub chain : (j : ℕ) → j < n → (b : ℕ) → T (hashed s b (item_at s j))
      → get_or ix (per_item * j + 1) 0 ≡ code (last_hashed b j s)

-- one step along a chain from its head: what the name is declared as by the item `it` at position i
-- and those passed before, which say `kept`: 1 for an enum or composite, otherwise the first type
-- met
abbrev pub so_far_by : Item → ℕ → List ℕ → ℕ → ℕ
so_far_by it i name kept =
    pick (eqb it.kind a_type)
    (pick (ltb 0 kept) kept (pick (same it.name name) (i + 2) 0))
    (pick (same it.name name) 1 kept)

-- ---- type names: the second number of a field

-- n is the number of what a name is declared as, and small
abbrev pub Numbers : Schema → List ℕ → ℕ → Type 0
Numbers s name n = (n ≡ declaration_code (declaration_of s name)) × (n < 1026)

-- the fields from n on hold what their type names are declared as
pub record Resolved (s : Schema) (n : ℕ) (ix : List ℕ) : Type 0 where
  pub is : (j : ℕ) → n ≤ j → j < length s.items → (item_at s j).kind ≡ a_field
      → get_or ix (per_item * j + 1) 0 ≡ declaration_code (declaration_of s (item_at s j).second)

-- ---- the whole index

-- the index is right for the schema
pub record Indexed (s : Schema) (ix : List ℕ) : Type 0 where
  pub long : per_item * length s.items ≤ length ix
  pub links : Linked s 0 ix
  pub types : Resolved s 0 ix

-- ---- while it is built

-- the first n items are in their chains, and there are no links yet
pub record Naming (s : Schema) (n : ℕ) (ix : List ℕ) : Type 0 where
  pub long : per_item * length s.items + mask_of (length s.items) < length ix
  pub zero : (k o : ℕ) → k < kinds → o < length s.items → get_or ix (per_item * o + 2 + k) 0 ≡ 0
  pub chained : Chained s n ix

-- all items are in their chains, those from l on are linked, and the fields from r on resolved
pub record Settling (s : Schema) (l r : ℕ) (ix : List ℕ) : Type 0 where
  pub long : per_item * length s.items + mask_of (length s.items) < length ix
  pub linked : Linked s l ix
  pub chained : Chained s (length s.items) ix
  pub resolved : Resolved s r ix

-- the items behind i are settled, and i is next
abbrev pub Next : Schema → ℕ → List ℕ → Type 0
Next s i ix = Settling s (i + 1) (i + 1) ix × (i < length s.items)
