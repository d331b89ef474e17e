-- Laws of the accessors of a view.
use Rattle.std.proofs.Common.{◌≡◌, sym, ap, ◌∙◌, List, ℕ, ◌≤◌, ◌<◌, length, drop, length-take, arith, eqb, eq-eqb, ne_eqb}
use lib.ListN.{get_or-eq_default}
use Rattle.texts.specs.Choice.{pick}
use Rattle.texts.specs.Text.{piece}
use Rattle.model.specs.Schema.{Item, Schema, no_item, item_at}
use Rattle.model.specs.internal.Store.{entry_at, item_of, items_of, schema_of}
use Rattle.model.specs.declared.Entry.{Entry}
use Rattle.model.specs.declared.Model.{Model}
use Rattle.model.proofs.Records.{length-items, get_or-items}

-- a piece is no longer than asked for
piece-short : (s : List ℕ) (a n : ℕ) → length (piece s a n) ≤ n
piece-short s a n = omega (arith, length-take n (drop a s))

module _ (m : Model) (rec : List ℕ) where
  pub count-shown : (text : List ℕ) → m.count ≡ length (schema_of m rec text).items
  unfolding schema_of
  count-shown text = sym (length-items m.count rec text)

  pub item-shown : (i : ℕ) (e : Entry) {n : ℕ} → n ≡ m.count → i < n → e ≡ entry_at rec i
      → (text : List ℕ) → item_of text e ≡ item_at (schema_of m rec text) i
  unfolding schema_of
  item-shown i e en h q text = ap (item_of text) q ∙ sym (get_or-items m.count rec text i (rw en at h))

  pub no-item-shown : (i : ℕ) {n : ℕ} → n ≡ m.count → n ≤ i → (text : List ℕ) → item_of text (record { kind = 0; owner = 0; name = 0; nlen = 0; second = 0; slen = 0; number = 0; given = 0; encoding = 0; elen = 0 }) ≡ item_at (schema_of m rec text) i
  unfolding schema_of item_of
  no-item-shown i en h text =
      let g : length (items_of m.count rec text) ≤ i = rw (length-items, ← en) h in
      sym (get_or-eq_default (items_of m.count rec text) no_item g)

-- what a view returns for its schema v, and for item i from its entry e
module _ (m : Model) (rec text : List ℕ) (v : Schema) (q : schema_of m rec text ≡ v) where
  pub package-shown : {w : List ℕ} → w ≡ piece text m.head.name m.head.len → w ≡ v.package_name
  unfolding schema_of
  package-shown h = h ∙ ap (λ (s : Schema). s.package_name) q

  pub id-shown : m.head.id ≡ v.id
  unfolding schema_of
  id-shown = ap (λ (s : Schema). s.id) q

  pub version-shown : m.head.version ≡ v.version
  unfolding schema_of
  version-shown = ap (λ (s : Schema). s.version) q

  items-seen : m.count ≡ length v.items
  items-seen = count-shown m rec text ∙ ap (λ (s : Schema). length s.items) q

  pub count-seen : {n : ℕ} → n ≡ m.count → n ≡ length v.items
  count-seen e = e ∙ items-seen

  pub count-few : m.count ≤ 1024 → length v.items ≤ 1024
  count-few h = rw (← items-seen) h

  module _ (e : Entry) (i : ℕ) (f : (t : List ℕ) → item_of t e ≡ item_at (schema_of m rec t) i) where
    shown : item_of text e ≡ item_at v i
    shown = f text ∙ ap (λ (s : Schema). item_at s i) q

    pub kind-shown : e.kind ≡ (item_at v i).kind
    unfolding item_of
    kind-shown = ap (λ (x : Item). x.kind) shown

    pub owner-shown : e.owner ≡ (item_at v i).owner
    unfolding item_of
    owner-shown = ap (λ (x : Item). x.owner) shown

    pub number-shown : e.number ≡ (item_at v i).number
    unfolding item_of
    number-shown = ap (λ (x : Item). x.number) shown

    pub given-shown : eqb e.given 1 ≡ (item_at v i).given
    unfolding item_of
    given-shown = ap (λ (x : Item). x.given) shown

    size-shown : pick (eqb e.given 1) e.number 0 ≡ pick (item_at v i).given (item_at v i).number 0
    size-shown = rw (given-shown, number-shown)

    pub size-given : e.given ≡ 1 → e.number ≡ pick (item_at v i).given (item_at v i).number 0
    size-given h = rw (eq-eqb e.given 1 h) at size-shown

    pub size-absent : (e.given ≡ 1 → ⊥) → 0 ≡ pick (item_at v i).given (item_at v i).number 0
    size-absent n = rw (ne_eqb e.given 1 n) at size-shown

    pub name-shown : {w : List ℕ} → w ≡ piece text e.name e.nlen → w ≡ (item_at v i).name
    unfolding item_of
    name-shown h = h ∙ ap (λ (x : Item). x.name) shown

    pub second-shown : {w : List ℕ} → w ≡ piece text e.second e.slen → w ≡ (item_at v i).second
    unfolding item_of
    second-shown h = h ∙ ap (λ (x : Item). x.second) shown

    pub encoding-shown : {w : List ℕ} → w ≡ piece text e.encoding e.elen → w ≡ (item_at v i).encoding
    unfolding item_of
    encoding-shown h = h ∙ ap (λ (x : Item). x.encoding) shown

    pub name-short : length (item_at v i).name ≤ e.nlen
    unfolding item_of
    name-short = rw (← ap (λ (x : Item). x.name) shown) (piece-short text e.name e.nlen)

    pub second_short : length (item_at v i).second ≤ e.slen
    unfolding item_of
    second_short = rw (← ap (λ (x : Item). x.second) shown) (piece-short text e.second e.slen)

    pub encoding-short : length (item_at v i).encoding ≤ e.elen
    unfolding item_of
    encoding-short = rw (← ap (λ (x : Item). x.encoding) shown) (piece-short text e.encoding e.elen)
