-- The sheet of a plain schema has names that end where they should, and plain kinds.
use Rattle.std.proofs.Common.{◌≡◌, refl, ap, sym, ◌∙◌, subst, Bool, true, false, not, List, [], ◌∷◌, ◌++◌, map, Option, Some, None, is_some, ℕ, ◌+◌, add-zero, T, eqb, get_or, drop, get_or-drop, drop-drop}
use borrow.Author.Tests.{not-false}
use Rattle.texts.specs.Choice.{pick, ◌or◌, ◌and◌}
use Rattle.texts.specs.Text.{ascii, same}
use Rattle.texts.specs.Lists.{all, Every, among}
use Rattle.texts.proofs.Choosing.{by-test, and_left, and_right, is_true}
use Rattle.texts.proofs.Comparing.{same-equal}
use Rattle.classes.specs.Class.{is_upper, is_lower}
use Rattle.charsets.specs.Charset.{compatible}
use Rattle.numbers.specs.Numbers.{is_digit}
use Rattle.model.specs.Schema.{Item, Schema, no_item, item_at, positions_from, all_of, under, last, last_named, a_type, a_composite, an_enum, a_value, a_member, a_ref, a_message, a_field, a_group}
use Rattle.xmltoproto.specs.Types.{Form, form_of, built_in, is_char, is_raw, built_ins, typed, unknown, is_declared, type_or, meaning}
use Rattle.xmltoproto.specs.Composites.{is_printed, printed_composites}
use Rattle.wiresheet.specs.Plain.{is_letter, is_name_byte, is_identifier, reserved, Named, Unreserved, PlainValue, PlainEnum, PlainMember, PlainRef, PlainComposite, Resolves, PlainField, PlainGroup, PlainMessage, Plain}
use Rattle.wiresheet.specs.Sheet.{kind_of, kind_by, value_of, enum_of, member_of, ref_of, composite_of, field_of, group_of, message_of, sheet}
use Rattle.wiresheet.proofs.Numbers.{and_both}
use Rattle.wiresheet.proofs.Tokens.{Free, or_elim, identifier-free, package-free, integer-free, snake-free, screaming-free, singular-free}
use Rattle.wiresheet.proofs.Lines.{OkKind}
use Rattle.wiresheet.proofs.Rendered.{OkValue, OkEnum, OkPart, OkComposite, OkField, OkGroup, OkMessage, OkSheet}

-- ---- lists

every_map : {A B : Type 0} (P : A → Type 0) (Q : B → Type 0) (h : A → B) → ((a : A) → P a → Q (h a)) → (l : List A) → Every P l → Every Q (map h l)
unfolding Every
every_map P Q h f [] e = tt
every_map P Q h f (a ∷ l) e = (f a e.0, every_map P Q h f l e.1)

every-weaken : {A : Type 0} (P Q : A → Type 0) → ((a : A) → P a → Q a) → (l : List A) → Every P l → Every Q l
unfolding Every
every-weaken P Q f [] e = tt
every-weaken P Q f (a ∷ l) e = (f a e.0, every-weaken P Q f l e.1)

every_append : {A : Type 0} (P : A → Type 0) (s t : List A) → Every P s → Every P t → Every P (s ++ t)
unfolding Every
every_append P [] t g h = h
every_append P (a ∷ s) t g h = (g.0, every_append P s t g.1 h)

-- what holds at each position where a test holds, holds of each item that passes it
items_of : (P : Item → Type 0) (q : Item → Bool) (l : List Item) (k : ℕ) (xs : List Item) → drop k l ≡ xs → Every (λ i. P (get_or l i no_item)) (positions_from k q xs) → Every (λ x. T (q x) → P x) xs
unfolding Every positions_from
items_of P q l k [] e h = tt
items_of P q l k (x ∷ xs) e h =
    let here : get_or l k no_item ≡ x = ap (λ n. get_or l n no_item) (sym (add-zero k)) ∙ sym (get_or-drop k l 0 no_item) ∙ ap (λ m. get_or m 0 no_item) e in
    let on : drop (k + 1) l ≡ xs = sym (drop-drop 1 k l) ∙ ap (drop 1) e in
    by-test (q x)
    (λ t. let g = rw t at h in ((λ _. subst P here g.0), items_of P q l (k + 1) xs on g.1))
    (λ f. ((λ y. absurd (rw f at y)), items_of P q l (k + 1) xs on (rw f at h)))

-- where the last of those that pass a test is found, there is one
one_found : (P Q : Item → Type 0) (p : Item → Bool) (k : ℕ) (xs : List Item) → Every P xs → Every Q xs → T (is_some (last (positions_from k p xs))) → (x : Item) × T (p x) × P x × Q x
unfolding Every positions_from last
one_found P Q p k [] g h t = absurd t
one_found P Q p k (x ∷ xs) g h t =
    by-test (p x)
    (λ y. (x, rw y tt, g.0, h.0))
    (λ f. one_found P Q p (k + 1) xs g.1 h.1 (rw f at t))

-- ---- names

abbrev Good : List ℕ → Type 0
Good n = T (is_identifier n) × T (not (among n reserved))

-- an item of a kind and a name, where the last is found
found : (s : Schema) (P Q : Item → Type 0) (kind : ℕ) (n : List ℕ) → Every P s.items → Every Q s.items → T (is_some (last_named kind n s)) → (x : Item) × T (eqb x.kind kind) × (x.name ≡ n) × P x × Q x
unfolding last_named
found s P Q kind n g h t =
    let r = one_found P Q (λ it. eqb it.kind kind and same it.name n) 0 s.items g h t in
    let x = r.0 in
    (x, and_left (eqb x.kind kind) (same x.name n) r.1, same-equal x.name n (is_true _ (and_right (eqb x.kind kind) (same x.name n) r.1)), r.2, r.3)

-- what is not printed has the name messageHeader or groupSizeEncoding
unprinted : (x : Item) → is_printed x ≡ false → Named x
unfolding is_printed is_identifier is_letter is_name_byte is_digit is_upper is_lower all
unprinted x f =
    let a = same x.name (ascii "messageHeader") in
    let b = same x.name (ascii "groupSizeEncoding") in
    let t : T (a or b) = rw (not-false (a or b) f) tt in
    or_elim a b (λ h. rw (same-equal x.name (ascii "messageHeader") (is_true a h)) tt) (λ h. rw (same-equal x.name (ascii "groupSizeEncoding") (is_true b h)) tt) t

module _ (s : Schema) (plain : Plain s) where
  enum-named : (n : List ℕ) → T (is_some (last_named an_enum n s)) → Good n
  unfolding all_of
  enum-named n h =
      let P : Item → Type 0 = λ x. Named x × Unreserved x in
      let es = items_of P (λ it. eqb it.kind an_enum) s.items 0 s.items refl (every-weaken (PlainEnum s) (λ e. P (item_at s e)) (λ e g. (g.name, g.free)) (all_of an_enum s) plain.enums) in
      let r = found s (λ x. T (eqb x.kind an_enum) → P x) (λ x. T (eqb x.kind an_enum) → P x) an_enum n es es h in
      subst Good r.2 (r.3 r.1)

  composite-named : (n : List ℕ) → T (is_some (last_named a_composite n s)) → Good n
  unfolding all_of printed_composites
  composite-named n h =
      let us = items_of Unreserved (λ it. eqb it.kind a_composite) s.items 0 s.items refl plain.free in
      let ns = items_of Named (λ it. eqb it.kind a_composite and is_printed it) s.items 0 s.items refl (every-weaken (PlainComposite s) (λ c. Named (item_at s c)) (λ c g. g.name) (printed_composites s) plain.composites) in
      let r = found s (λ x. T (eqb x.kind a_composite) → Unreserved x) (λ x. T (eqb x.kind a_composite and is_printed x) → Named x) a_composite n us ns h in
      let x = r.0 in
      let name : Named x = by-test (is_printed x) (λ t. r.4 (and_both (eqb x.kind a_composite) (is_printed x) r.1 (rw t tt))) (unprinted x) in
      subst Good r.2 (name, r.3 r.1)

  -- the name of an enum or a composite
  declared-named : (n : List ℕ) → T (is_declared s n) → Good n
  unfolding is_declared
  declared-named n h = or_elim (is_some (last_named an_enum n s)) (is_some (last_named a_composite n s)) (enum-named n) (composite-named n) h

-- ---- kinds

kind_ok : (t : Form) → T (among t.primitive built_ins) → OkKind (kind_of t)
unfolding kind_of
kind_ok t h =
    by-test (is_char t)
    (λ c. by-test (compatible t.encoding) (λ u. rw (c, u) tt) (λ u. rw (c, u) tt))
    (λ c. by-test (is_raw t) (λ u. rw (c, u) tt) (λ u. rw (c, u) h))

type-ok : (s : Schema) (n : List ℕ) (o : Option ℕ) → Resolves (type_or s n o) → OkKind (kind_by n (type_or s n o))
type-ok s n (Some i) h = kind_ok (form_of (item_at s i)) h
type-ok s n None h = go (among n built_ins) h
  where
    go : (b : Bool) → Resolves (pick b (typed (built_in n)) unknown) → OkKind (kind_by n (pick b (typed (built_in n)) unknown))
    go true h = kind_ok (built_in n) h
    go false h = absurd h

meaning-ok : (s : Schema) → Plain s → (n : List ℕ) → Resolves (meaning s n) → OkKind (kind_by n (meaning s n))
unfolding meaning
meaning-ok s plain n h =
    by-test (is_declared s n)
    (λ t. rw t (declared-named s plain n (rw t tt)))
    (λ f. rw f (type-ok s n (last_named a_type n s) (rw f at h)))

-- ---- the sheet

name-ok : (it : Item) → Named it → Free 32 it.name
name-ok it h = identifier-free it.name h

module _ (s : Schema) (plain : Plain s) where
  value-ok : (v : Item) → PlainValue v → OkValue (value_of v)
  unfolding value_of
  value-ok v h = record { name = screaming-free v.name (name-ok v h.name); value = integer-free v.second h.value }

  enum_ok : (e : ℕ) → PlainEnum s e → OkEnum (enum_of s e)
  unfolding enum_of
  enum_ok e h =
      record {
        name = name-ok (item_at s e) h.name;
        values = every_map (λ v. PlainValue (item_at s v)) OkValue (λ v. value_of (item_at s v)) (λ v. value-ok (item_at s v)) (under a_value e s) h.values;
      }

  member-ok : (m : Item) → PlainMember m → OkPart (member_of m)
  unfolding member_of form_of
  member-ok m h = record { kind = kind_ok (form_of m) h.primitive; name = snake-free m.name (name-ok m h.name) }

  ref-ok : (r : Item) → PlainRef s r → OkPart (ref_of r)
  unfolding ref_of
  ref-ok r h = record { kind = declared-named s plain r.second h.type; name = snake-free r.name (name-ok r h.name) }

  composite-ok : (c : ℕ) → PlainComposite s c → OkComposite (composite_of s c)
  unfolding composite_of
  composite-ok c h =
      record {
        name = name-ok (item_at s c) h.name;
        parts =
            every_append OkPart _ _
            (every_map (λ m. PlainMember (item_at s m)) OkPart (λ m. member_of (item_at s m)) (λ m. member-ok (item_at s m)) (under a_member c s) h.members)
            (every_map (λ r. PlainRef s (item_at s r)) OkPart (λ r. ref_of (item_at s r)) (λ r. ref-ok (item_at s r)) (under a_ref c s) h.refs);
      }

  field-ok : (f : Item) → PlainField s f → OkField (field_of s f)
  unfolding field_of
  field-ok f h = record { kind = meaning-ok s plain f.second h.type; name = snake-free f.name (name-ok f h.name) }

  fields-ok : (l : List ℕ) → Every (λ f. PlainField s (item_at s f)) l → Every OkField (map (λ f. field_of s (item_at s f)) l)
  fields-ok l h = every_map (λ f. PlainField s (item_at s f)) OkField (λ f. field_of s (item_at s f)) (λ f. field-ok (item_at s f)) l h

  group-ok : (g : ℕ) → PlainGroup s g → OkGroup (group_of s g)
  unfolding group_of
  group-ok g h =
      let n = name-ok (item_at s g) h.name in
      record { name = snake-free (item_at s g).name n; singular = singular-free (item_at s g).name n; fields = fields-ok (under a_field g s) h.fields }

  message-ok : (m : ℕ) → PlainMessage s m → OkMessage (message_of s m)
  unfolding message_of
  message-ok m h =
      record {
        name = name-ok (item_at s m) h.name;
        fields = fields-ok (under a_field m s) h.fields;
        groups = every_map (PlainGroup s) OkGroup (group_of s) group-ok (under a_group m s) h.groups;
      }

  pub sheet-ok : OkSheet (sheet s)
  unfolding sheet
  sheet-ok =
      record {
        package_name = package-free s.package_name plain.package_name;
        enums = every_map (PlainEnum s) OkEnum (enum_of s) enum_ok (all_of an_enum s) plain.enums;
        composites = every_map (PlainComposite s) OkComposite (composite_of s) composite-ok (printed_composites s) plain.composites;
        messages = every_map (PlainMessage s) OkMessage (message_of s) message-ok (all_of a_message s) plain.messages;
      }
