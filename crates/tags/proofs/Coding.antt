-- Laws of codes: which names matter in a tag, and what is noted of an attribute by its code.
use Rattle.tags.specs.declared.part.Ending.{Ending}
use Rattle.texts.specs.declared.Range.{Range}
use Rattle.std.proofs.Common.{Some, None, Option, Result, Ok, Err, ◌≡◌, refl, sym, ap, ◌∙◌, Bool, true, false, not, List, [], ◌∷◌, ℕ, ◌+◌, ◌-◌, ◌<◌, zero-add, arith, T, eqb, leb, leb→le, length, eq-eqb, ne_eqb, le-ltb, append-nil}
use Rattle.texts.specs.Choice.{pick}
use Rattle.texts.specs.Lists.{all}
use Rattle.texts.specs.Text.{same}
use Rattle.texts.specs.Scan.{count_while, scan, until, is}
use Rattle.texts.proofs.Choosing.{by-test, and_left, and_right}
use Rattle.classes.specs.Class.{is_space, is_tag_name_end, is_attribute_name_end}
use Rattle.tags.specs.declared.known.Codes.{Codes}
use Rattle.tags.specs.declared.part.RawAttribute.{RawAttribute}
use Rattle.tags.specs.declared.part.TagPart.{TagPart}
use Rattle.tags.specs.declared.part.TagPart.TheVariants.{Attribute as Part, TagEnd}
use Rattle.tags.specs.declared.part.Quick.{Quick}
use Rattle.tags.specs.declared.noting.Notes.{Notes}
use Rattle.refusals.specs.declared.Refusal.{Refusal}
use Rattle.elements.specs.declared.Element.{Element}
use Rattle.elements.specs.declared.Element.TheVariants.{MessageSchema, «Type», Ref, Composite, Enum, ValidValue, Message, Group, Field, Other}
use Rattle.elements.specs.Keys.{Keys, schema_keys, type_keys, enum_keys, field_keys, keys_of}
use Rattle.tags.specs.Names.{prefix_length, local_name, is_xmlns}
use Rattle.tags.specs.Attributes.{raw_name, tag_part_at, tag_at, attribute_at}
use Rattle.tags.specs.internal.Noting.{no_notes, found_at, noted_number, noted_name, noted_second, noted_encoding, with_value, FoundMore, NotedMore, NotedBy}
use Rattle.tags.specs.internal.Known.{known_name, codes, CodesOf, differ, Apart, QuickAt, NamedAs, IsNamespace}
use Rattle.tags.proofs.Tagging.{Going, part-less, part-value, going_on, going_end, going-bad}
use Rattle.tags.proofs.Looking.{found-value, Looking, looking-start, looking-on, looking-end, looking-bad}
use Rattle.tags.proofs.Knowing.{up-each, count-to, goes, plain_name, known-plain, goes-all, goes_other}

-- ---- the codes of the names that matter

module _ {e : Element} where
  pub codes-schema : e ≡ MessageSchema → CodesOf (keys_of e) (record { number = 2; name = 9; second = 8; encoding = 0 })
  unfolding same
  codes-schema q = rw q (record { number = tt; name = tt; second = tt; encoding = tt })

  pub codes-type : e ≡ «Type» → CodesOf (keys_of e) (record { number = 4; name = 1; second = 5; encoding = 7 })
  unfolding same
  codes-type q = rw q (record { number = tt; name = tt; second = tt; encoding = tt })

  pub codes-enum : e ≡ Enum → CodesOf (keys_of e) (record { number = 0; name = 1; second = 6; encoding = 0 })
  unfolding same
  codes-enum q = rw q (record { number = tt; name = tt; second = tt; encoding = tt })

-- an element that is none of the three
keys_else : (e : Element) → (e ≡ MessageSchema → ⊥) → (e ≡ «Type» → ⊥) → (e ≡ Enum → ⊥) → keys_of e ≡ field_keys
keys_else MessageSchema a b c = absurd (a refl)
keys_else «Type» a b c = absurd (b refl)
keys_else Ref a b c = refl
keys_else Composite a b c = refl
keys_else Enum a b c = absurd (c refl)
keys_else ValidValue a b c = refl
keys_else Message a b c = refl
keys_else Group a b c = refl
keys_else Field a b c = refl
keys_else Other a b c = refl

pub codes-other : {e : Element} → (e ≡ MessageSchema → ⊥) → (e ≡ «Type» → ⊥) → (e ≡ Enum → ⊥) → CodesOf (keys_of e) (record { number = 2; name = 1; second = 3; encoding = 0 })
unfolding same
codes-other {e} a b c = rw (keys_else e a b c) (record { number = tt; name = tt; second = tt; encoding = tt })

-- ---- what is noted

codes_same : (key : List ℕ) (c k : ℕ) → T (codes key c) → 0 < k → k < 18 → eqb k c ≡ same (known_name k) key
codes_same key c k t h l = agrees (eqb k c) (same (known_name k) key) (up-each 17 (λ k. pick (eqb k c) (same (known_name k) key) (not (same (known_name k) key))) (and_right (leb c 9) _ t) k h (omega arith))
  where
    agrees : (a b : Bool) → T (pick a b (not b)) → a ≡ b
    agrees true true u = refl
    agrees true false u = absurd u
    agrees false true u = absurd u
    agrees false false u = refl

colon-count : (n : List ℕ) → T (all goes n) → count_while (until (is 58)) n ≡ length n
unfolding is_attribute_name_end is_tag_name_end is_space
colon-count n t = ap (count_while (until (is 58))) (sym (append-nil n)) ∙ count-to (until (is 58)) goes (λ b u. ap not (goes_other b u 58 refl)) n [] t refl

plain_local : (n : List ℕ) → T (plain_name n) → local_name n ≡ n
unfolding prefix_length
plain_local n t =
    let e : scan (until (is 58)) n 0 ≡ length n = zero-add (count_while (until (is 58)) n) ∙ colon-count n (goes-all n t) in
    rw (e, le-ltb (length n) (length n) (omega arith))

plain-space : (n : List ℕ) → T (plain_name n) → is_xmlns n ≡ false
plain-space [] t = absurd t
plain-space (b ∷ s) t = is-not (is_xmlns (b ∷ s)) (and_right (all goes s) (not (is_xmlns (b ∷ s))) (and_right (goes b) _ t))
  where
    is-not : (x : Bool) → T (not x) → x ≡ false
    is-not true u = absurd u
    is-not false u = refl

module _ (code : ℕ) (h : 0 < code) (l : code < 18) (value : Range) (key : List ℕ) (c was long : ℕ) (t : T (codes key c)) where
  known-noted : {m : Bool} → m ≡ eqb code c → FoundMore (known_name code) value key (found_at was long) (found_at (pick m (value.from + 1) was) (pick m value.len long))
  known-noted {m} e =
      let s = e ∙ codes_same key c code t h l in
      rw (plain-space (known_name code) (known-plain code h l), plain_local (known_name code) (known-plain code h l), ← s)
      (by-test m (λ t. rw t (found-value value)) (λ t. rw t refl))

-- each b is the result of a comparison with a code
known_more : (code : ℕ) → 0 < code → code < 18 → (value : Range) (was : Notes) (cs : Codes) (k : Keys) → CodesOf k cs → {a b c d : Bool} → a ≡ eqb code cs.number → b ≡ eqb code cs.name → c ≡ eqb code cs.second → d ≡ eqb code cs.encoding
    → NotedMore (known_name code) value k was (with_value (record { number = a; name = b; second = c; encoding = d }) value was)
known_more code h l value was cs k t a b c d =
    record {
      number = known-noted code h l value k.number cs.number was.number was.number_len t.number a;
      name = known-noted code h l value k.name cs.name was.name was.name_len t.name b;
      second = known-noted code h l value k.second cs.second was.second was.second_len t.second c;
      encoding = known-noted code h l value k.encoding cs.encoding was.encoding was.encoding_len t.encoding d;
    }

-- ---- each name on its own

differ-not : (c d : ℕ) → T (differ c d) → 0 < c → c ≡ d → ⊥
differ-not c d t h e = rw (ne_eqb c 0 (λ z. omega arith), eq-eqb c d e) at t

module _ (code : ℕ) (h : 0 < code) (l : code < 18) (value : Range) (was : Notes) (cs : Codes) (a : Apart cs) (k : Keys) (t : CodesOf k cs) where
  -- the result of a comparison with another code, where one code is equal
  other : (c d : ℕ) → T (differ c d) → code ≡ c → false ≡ eqb code d
  other c d f e = sym (ne_eqb code d (λ z. differ-not c d f (omega arith) (sym e ∙ z)))

  earlier : (c d : ℕ) → T (differ c d) → code ≡ d → false ≡ eqb code c
  earlier c d f e = sym (ne_eqb code c (λ z. differ-not c d f (omega arith) (sym z ∙ e)))

  pub known-number : code ≡ cs.number → NotedMore (known_name code) value k was (record was { number = value.from + 1; number_len = value.len })
  known-number e = known_more code h l value was cs k t (sym (eq-eqb code cs.number e)) (other _ _ a.number-name e) (other _ _ a.number-second e) (other _ _ a.number-encoding e)

  pub known-name : code ≡ cs.name → NotedMore (known_name code) value k was (record was { name = value.from + 1; name_len = value.len })
  known-name e = known_more code h l value was cs k t (earlier _ _ a.number-name e) (sym (eq-eqb code cs.name e)) (other _ _ a.name-second e) (other _ _ a.name-encoding e)

  pub known-second : code ≡ cs.second → NotedMore (known_name code) value k was (record was { second = value.from + 1; second_len = value.len })
  known-second e = known_more code h l value was cs k t (earlier _ _ a.number-second e) (earlier _ _ a.name-second e) (sym (eq-eqb code cs.second e)) (other _ _ a.second-encoding e)

  pub known-encoding : code ≡ cs.encoding → NotedMore (known_name code) value k was (record was { encoding = value.from + 1; encoding_len = value.len })
  known-encoding e = known_more code h l value was cs k t (earlier _ _ a.number-encoding e) (earlier _ _ a.name-encoding e) (earlier _ _ a.second-encoding e) (sym (eq-eqb code cs.encoding e))

  pub known-nowhere : (code ≡ cs.number → ⊥) → (code ≡ cs.name → ⊥) → (code ≡ cs.second → ⊥) → (code ≡ cs.encoding → ⊥) → NotedMore (known_name code) value k was was
  known-nowhere n o p q = known_more code h l value was cs k t (sym (ne_eqb code cs.number n)) (sym (ne_eqb code cs.name o)) (sym (ne_eqb code cs.second p)) (sym (ne_eqb code cs.encoding q))

-- no element looks up a name of a code above 9
pub known_past : (code : ℕ) → 9 < code → code < 18 → (value : Range) (was : Notes) (cs : Codes) (k : Keys) → CodesOf k cs → NotedMore (known_name code) value k was was
known_past code h l value was cs k t = known_more code (omega arith) l value was cs k t (past k.number cs.number t.number) (past k.name cs.name t.name) (past k.second cs.second t.second) (past k.encoding cs.encoding t.encoding)
  where
    past : (key : List ℕ) (c : ℕ) → T (codes key c) → false ≡ eqb code c
    past key c u = sym (ne_eqb code c (λ e. omega (arith, leb→le c 9 (and_left (leb c 9) _ u))))

module _ {raw : List ℕ} {known : Option ℕ} {code : ℕ} (e : NamedAs raw known) (h : known ≡ Some code) where
  pub named-above : 0 < code
  named-above = (e.named code h).0

  pub named-below : code < 18
  named-below = (e.named code h).1

  pub by_name : (value : Range) {was r : Notes} {cs : Codes} {k : Keys} → ((j : Keys) → CodesOf j cs → NotedMore (known_name code) value j was r) → CodesOf k cs → NotedMore raw value k was r
  by_name value {k = k} m t = rw (e.named code h).2 (m k t)

-- by the element, where an attribute has any name
module _ (raw : List ℕ) (value : Range) {e : Element} {was r : Notes} where
  pub other-schema : e ≡ MessageSchema → NotedMore raw value schema_keys was r → NotedMore raw value (keys_of e) was r
  other-schema q n = rw q n

  pub other-type : e ≡ «Type» → NotedMore raw value type_keys was r → NotedMore raw value (keys_of e) was r
  other-type q n = rw q n

  pub other-enum : e ≡ Enum → NotedMore raw value enum_keys was r → NotedMore raw value (keys_of e) was r
  other-enum q n = rw q n

  pub other-field : (e ≡ MessageSchema → ⊥) → (e ≡ «Type» → ⊥) → (e ≡ Enum → ⊥) → NotedMore raw value field_keys was r → NotedMore raw value (keys_of e) was r
  other-field a b c n = rw (keys_else e a b c) n

-- ---- the loop of `tag_noting` is at i; q is the part there

pub record LookingAll (doc : List ℕ) (at : ℕ) (k : Keys) (i : ℕ) (noted : Notes) : Type 0 where
  pub number : Looking doc at k.number i (noted_number noted)
  pub name : Looking doc at k.name i (noted_name noted)
  pub second : Looking doc at k.second i (noted_second noted)
  pub encoding : Looking doc at k.encoding i (noted_encoding noted)

pub all_start : (doc : List ℕ) (at : ℕ) (k : Keys) {noted : Notes} → noted ≡ no_notes → LookingAll doc at k at noted
unfolding found_at
all_start doc at k e = rw e (record { number = looking-start; name = looking-start; second = looking-start; encoding = looking-start })

module _ (doc : List ℕ) (at place i : ℕ) {q : Quick} (u : QuickAt doc i place q) where
  pub quick-less : {a : RawAttribute} → q.part ≡ Ok (Part a) → length doc - a.next < length doc - i
  quick-less f = part-less doc i place u.is f

  pub quick-value : {a : RawAttribute} → q.part ≡ Ok (Part a) → a.value.from < length doc
  quick-value f = part-value doc i place u.is f

  pub quick-named : {a : RawAttribute} → q.part ≡ Ok (Part a) → NamedAs (raw_name doc a) q.code
  quick-named f = record { named = λ k h. rw f at (u.named k h) }

  pub quick-on : Going doc at place i → {a : RawAttribute} → q.part ≡ Ok (Part a) → Going doc at place a.next
  quick-on g f = going_on g u.is f

  pub quick-end : Going doc at place i → {ending : Ending} → q.part ≡ Ok (TagEnd ending) → Ok ending ≡ (tag_at doc at place).ending
  quick-end g f = going_end g u.is f

  pub quick-bad : Going doc at place i → {refusal : Refusal} → q.part ≡ Err refusal → Err refusal ≡ (tag_at doc at place).ending
  quick-bad g f = going-bad g u.is f

  module _ {k : Keys} {noted : Notes} (inv : LookingAll doc at k i noted) where
    pub all-on : {a : RawAttribute} → q.part ≡ Ok (Part a) → {r : Notes} → NotedMore (raw_name doc a) a.value k noted r → LookingAll doc at k a.next r
    all-on f m =
        record {
          number = looking-on inv.number place u.is f m.number;
          name = looking-on inv.name place u.is f m.name;
          second = looking-on inv.second place u.is f m.second;
          encoding = looking-on inv.encoding place u.is f m.encoding;
        }

    pub all_end : {ending : Ending} → q.part ≡ Ok (TagEnd ending) → NotedBy k doc at noted
    all_end f =
        record {
          number = looking-end inv.number place u.is f;
          name = looking-end inv.name place u.is f;
          second = looking-end inv.second place u.is f;
          encoding = looking-end inv.encoding place u.is f;
        }

    pub all-bad : {refusal : Refusal} → q.part ≡ Err refusal → NotedBy k doc at noted
    all-bad f =
        record {
          number = looking-bad inv.number place u.is f;
          name = looking-bad inv.name place u.is f;
          second = looking-bad inv.second place u.is f;
          encoding = looking-bad inv.encoding place u.is f;
        }

-- one name alone
module _ {doc : List ℕ} {at : ℕ} {name : List ℕ} {i : ℕ} {found : Option Range} (inv : Looking doc at name i found) (place : ℕ) {p : Result TagPart Refusal} (e : p ≡ tag_part_at doc i place) {r : Option Range} (s : r ≡ found) where
  pub looked-end : {ending : Ending} → p ≡ Ok (TagEnd ending) → r ≡ attribute_at doc at name
  looked-end h = s ∙ looking-end inv place e h

  pub looked-bad : {refusal : Refusal} → p ≡ Err refusal → r ≡ attribute_at doc at name
  looked-bad h = s ∙ looking-bad inv place e h

-- whether an attribute declares a namespace
module _ {raw : List ℕ} {code : Option ℕ} where
  pub declares-known : {k : ℕ} → code ≡ Some k → IsNamespace raw code false
  declares-known e = record { yes = λ h. absurd (let z : ◌≡◌ {A = ℕ} 0 1 = cc in omega arith); no = λ h f. absurd (let z : ◌≡◌ {A = ℕ} 0 1 = cc in omega arith) }

  pub declares-tested : {b : Bool} → b ≡ is_xmlns raw → IsNamespace raw code b
  declares-tested e = record { yes = λ h. sym e ∙ h; no = λ h f. sym e ∙ h }

  pub declares-none : {b : Bool} → IsNamespace raw code b → b ≡ false → code ≡ None → is_xmlns raw ≡ false
  declares-none d f e = d.no f e

  pub declares-not : {b : Bool} → IsNamespace raw code b → b ≡ false → IsNamespace raw code false
  declares-not d f = rw f at d
