-- The source is no longer than its header and what each item adds at most.
use Rattle.std.proofs.Common.{◌≡◌, Bool, true, List, [], ◌++◌, ℕ, zero, suc, ◌+◌, ◌≤◌, ◌<◌, arith, eqb, length, length-append, eqb-true}
use Rattle.texts.specs.Choice.{pick, ◌and◌}
use Rattle.texts.specs.Text.{ascii}
use Rattle.texts.specs.Lists.{is_empty, each, numbered}
use Rattle.printing.specs.Decimal.{decimal}
use Rattle.model.specs.Schema.{Item, Schema, item_at, positions_from, all_of, under, a_member, a_ref, a_composite, an_enum, a_value, a_message, a_group, a_field}
use Rattle.xmltoproto.specs.Composites.{is_printed, printed_composites}
use Rattle.xmltoproto.specs.Source.{package_line, header, value_text, enum_text, member_text, ref_text, part_texts, composite_text, field_text, group_text, message_text, source}
use Rattle.xmltoproto.specs.internal.Bound.{enum_most, value_most, composite_most, member_most, ref_most, message_most, group_most, field_most, share}
use Rattle.model.specs.Schema.{is_under}
use Rattle.xmltoproto.proofs.Looping.{at_most}
use Rattle.xmltoproto.proofs.Lengths.{pick-most, snake-most, singular-most}
use Rattle.xmltoproto.proofs.Longest.{value-most, member-most, ref-most, field-most}
use Rattle.xmltoproto.proofs.Owning.{sum_to, sum_less, and-less, by-owner, any-owner, two-owners, each-total, numbered_total, total-positions}

abbrev is : ℕ → Schema → ℕ → Bool
is kind s i = eqb (item_at s i).kind kind

abbrev owner : Schema → ℕ → ℕ
owner s i = (item_at s i).owner

-- what the item at a position adds
abbrev at : Schema → (Item → ℕ) → ℕ → ℕ
at s g i = g (item_at s i)

-- what the items of a kind add; those of them that stand under an owner
abbrev whole : ℕ → Schema → (ℕ → ℕ) → ℕ
whole kind s g = sum_to (λ i. pick (is kind s i) (g i) 0) (length s.items)

abbrev below : ℕ → ℕ → Schema → (ℕ → ℕ) → ℕ
below kind o s g = sum_to (λ i. pick (is kind s i and eqb (owner s i) o) (g i) 0) (length s.items)

all_most : (s : Schema) (kind : ℕ) (f : ℕ → List ℕ) (g : ℕ → ℕ) → ((i : ℕ) → length (f i) ≤ g i) → length (each f (all_of kind s)) ≤ whole kind s g
unfolding all_of
all_most s kind f g h =
    omega (arith, each-total f g h (positions_from 0 (λ it. eqb it.kind kind) s.items), total-positions g (λ it. eqb it.kind kind) s)

module _ (s : Schema) (kind o : ℕ) where
  under-most : (f : ℕ → List ℕ) (g : ℕ → ℕ) → ((i : ℕ) → length (f i) ≤ g i) → length (each f (under kind o s)) ≤ below kind o s g
  unfolding under
  under-most f g h =
      omega (arith, each-total f g h (positions_from 0 (is_under kind o) s.items), total-positions g (is_under kind o) s)

  under-count : length (under kind o s) ≤ length s.items
  unfolding under
  under-count = at_most (is_under kind o) 0 s.items

  under-numbered : (f : ℕ → ℕ → List ℕ) (g : ℕ → ℕ) → ((k i : ℕ) → k < 4294967296 → length (f k i) ≤ g i) → (k : ℕ) → k + length s.items ≤ 4294967296 → length (numbered f k (under kind o s)) ≤ below kind o s g
  unfolding under
  under-numbered f g h k m =
      omega (arith, numbered_total f g h k (positions_from 0 (is_under kind o) s.items) (omega (arith, under-count)), total-positions g (is_under kind o) s)

-- what items of the kind p hold of the kind q
held : (s : Schema) (p q : ℕ) (a : ℕ → ℕ) (h : ℕ → ℕ → ℕ) → whole p s (λ e. a e + below q e s (h e)) ≤ whole p s a + whole q s (λ v. h (owner s v) v)
held s p q a h =
    omega (arith, by-owner (is p s) (is q s) (owner s) (length s.items) a h (length s.items), any-owner (is p s) (is q s) (owner s) (λ v. h (owner s v) v) (length s.items))

-- ---- header and enums

package-most : (w : List ℕ) → length (package_line w) ≤ 11 + length w
unfolding package_line
package-most w = pick-most (is_empty w) [] (ascii "package " ++ w ++ ascii ";\n\n") (11 + length w) (omega arith) (simp length-append (omega arith))

header-most : (s : Schema) → length (header s) ≤ 117 + length s.package_name + length (decimal s.id) + length (decimal s.version)
unfolding header
header-most s = simp length-append (omega (arith, package-most s.package_name))

module _ (s : Schema) where
  enum-most : (e : ℕ) → length (enum_text s e) ≤ at s enum_most e + below a_value e s (at s (value_most (item_at s e)))
  unfolding enum_text
  enum-most e =
      simp length-append
      (omega
      (arith, under-most s a_value e (λ v. value_text (item_at s e).name (item_at s v)) (at s (value_most (item_at s e))) (λ v. value-most (item_at s e) (item_at s v))))

  enums-most : length (each (enum_text s) (all_of an_enum s)) ≤ whole an_enum s (at s enum_most) + whole a_value s (at s (λ v. value_most (item_at s v.owner) v))
  enums-most =
      omega (
        arith,
        all_most s an_enum (enum_text s) (λ e. at s enum_most e + below a_value e s (at s (value_most (item_at s e)))) enum-most,
        held s an_enum a_value (at s enum_most) (λ e. at s (value_most (item_at s e))),
      )

-- ---- composites

module _ (s : Schema) (few : length s.items ≤ 1024) where
  parts-most : (c : ℕ) → length (part_texts s c) ≤ below a_member c s (at s member_most) + below a_ref c s (at s ref_most)
  unfolding part_texts
  parts-most c =
      simp length-append
      (omega (
        arith,
        under-numbered s a_member c (λ n m. member_text n (item_at s m)) (at s member_most) (λ k i l. member-most k l (item_at s i)) 1 (omega arith),
        under-numbered s a_ref c (λ n r. ref_text n (item_at s r)) (at s ref_most) (λ k i l. ref-most k l (item_at s i)) (1 + length (under a_member c s)) (omega (arith, under-count s a_member c)),
      ))

  composite-most : (c : ℕ) → length (composite_text s c) ≤ at s composite_most c + below a_member c s (at s member_most) + below a_ref c s (at s ref_most)
  unfolding composite_text
  composite-most c = simp length-append (omega (arith, parts-most c))

  printed-most : (f : ℕ → List ℕ) (g : ℕ → ℕ) → ((i : ℕ) → length (f i) ≤ g i) → length (each f (printed_composites s)) ≤ whole a_composite s g
  unfolding printed_composites
  printed-most f g h =
      let q : Item → Bool = λ it. eqb it.kind a_composite and is_printed it in
      omega (
        arith,
        each-total f g h (positions_from 0 q s.items),
        total-positions g q s,
        sum_less (λ i. pick (q (item_at s i)) (g i) 0) (λ i. pick (is a_composite s i) (g i) 0) (λ i. and-less (is a_composite s i) (is_printed (item_at s i)) (g i)) (length s.items),
      )

  composites-most : length (each (composite_text s) (printed_composites s)) ≤ whole a_composite s (at s composite_most) + whole a_member s (at s member_most) + whole a_ref s (at s ref_most)
  composites-most =
      let members : ℕ → ℕ = λ c. at s composite_most c + below a_member c s (at s member_most) in
      omega (
        arith,
        printed-most (composite_text s) (λ c. members c + below a_ref c s (at s ref_most)) composite-most,
        held s a_composite a_ref members (λ c. at s ref_most),
        held s a_composite a_member (at s composite_most) (λ c. at s member_most),
      )

-- ---- messages

module _ (s : Schema) where
  fields-most : (ind : List ℕ) → length ind ≤ 4 → (o : ℕ) → length (each (λ f. field_text s ind (item_at s f)) (under a_field o s)) ≤ below a_field o s (at s (field_most s))
  fields-most ind h o = under-most s a_field o (λ f. field_text s ind (item_at s f)) (at s (field_most s)) (λ f. field-most s ind h (item_at s f))

  group-most : (g : ℕ) → length (group_text s g) ≤ at s group_most g + below a_field g s (at s (field_most s))
  unfolding group_text
  group-most g = simp length-append (omega (arith, fields-most (ascii "    ") (omega arith) g, singular-most (item_at s g).name, snake-most (item_at s g).name))

  message-most : (m : ℕ) → length (message_text s m)
      ≤ at s message_most m + below a_field m s (at s (field_most s)) + below a_group m s (λ g. at s group_most g + below a_field g s (at s (field_most s)))
  unfolding message_text
  message-most m =
      simp length-append
      (omega (
        arith,
        fields-most (ascii "  ") (omega arith) m,
        under-most s a_group m (group_text s) (λ g. at s group_most g + below a_field g s (at s (field_most s))) group-most,
      ))

  -- no item is both a message and a group
  apart : (i : ℕ) → is a_message s i ≡ true → is a_group s i ≡ true → ⊥
  apart i t u = omega (arith, eqb-true (item_at s i).kind a_message t, eqb-true (item_at s i).kind a_group u)

  messages-most : length (each (message_text s) (all_of a_message s)) ≤ whole a_message s (at s message_most) + whole a_group s (at s group_most) + whole a_field s (at s (field_most s))
  messages-most =
      let n = length s.items in
      let fields : ℕ → ℕ = at s (field_most s) in
      let message : ℕ → ℕ = λ m. at s message_most m + below a_field m s fields in
      let group : ℕ → ℕ = λ g. at s group_most g + below a_field g s fields in
      omega (
        arith,
        all_most s a_message (message_text s) (λ m. message m + below a_group m s group) message-most,
        held s a_message a_group message (λ m. group),
        by-owner (is a_message s) (is a_field s) (owner s) n (at s message_most) (λ m. fields) n,
        by-owner (is a_group s) (is a_field s) (owner s) n (at s group_most) (λ g. fields) n,
        two-owners (is a_message s) (is a_group s) (is a_field s) (owner s) fields apart n,
      )

-- ---- the whole

eight : (a b c d e f g h : ℕ → ℕ) (n : ℕ) → sum_to a n + sum_to b n + sum_to c n + sum_to d n + sum_to e n + sum_to f n + sum_to g n + sum_to h n ≡ sum_to (λ i. a i + b i + c i + d i + e i + f i + g i + h i) n
unfolding sum_to
eight a b c d e f g h zero = omega arith
eight a b c d e f g h (suc n) = omega (arith, eight a b c d e f g h n)

pub source-most : (s : Schema) → length s.items ≤ 1024
    → length (source s) ≤ 117 + length s.package_name + length (decimal s.id) + length (decimal s.version) + sum_to (share s) (length s.items)
unfolding source share
source-most s few =
    let only : ℕ → (Item → ℕ) → ℕ → ℕ = λ kind g i. pick (is kind s i) (at s g i) 0 in
    simp length-append
    (omega (
      arith,
      header-most s,
      enums-most s,
      composites-most s few,
      messages-most s,
      eight (only an_enum enum_most) (only a_value (λ v. value_most (item_at s v.owner) v)) (only a_composite composite_most) (only a_member member_most) (only a_ref ref_most)
          (only a_message message_most) (only a_group group_most) (only a_field (field_most s)) (length s.items),
    ))
