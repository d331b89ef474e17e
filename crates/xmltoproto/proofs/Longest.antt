-- How long the lines of the source are at most.
use Rattle.std.proofs.Common.{◌≡◌, refl, Bool, true, false, List, [], ◌∷◌, ℕ, ◌+◌, ◌≤◌, ◌<◌, arith, ltb, length, length-append, ltb-false, Option, Some, None}
use Rattle.texts.specs.Choice.{pick}
use Rattle.texts.specs.Text.{ascii}
use Rattle.texts.specs.Trim.{trimmed_front, trimmed_back, trimmed}
use Rattle.texts.specs.Lists.{among}
use Rattle.texts.proofs.Choosing.{by-test}
use Rattle.printing.specs.Decimal.{digits, decimal}
use Rattle.charsets.specs.Charset.{cleaned, compatible}
use Rattle.names.specs.Conversions.{camel_to_snake}
use Rattle.index.specs.Declarations.{declaration_of}
use Rattle.index.specs.declared.declaration.Declaration.{Declaration}
use Rattle.index.specs.declared.declaration.Declaration.TheVariants.{Named, Typed}
use Rattle.model.specs.Schema.{Item, Schema, item_at}
use Rattle.xmltoproto.specs.Types.{Form, Proto, form_of, built_ins, built_in, is_char, chars, is_raw, as_named, of_length, note_on, narrow, as_primitive, proto_of, proto_by}
use Rattle.xmltoproto.specs.Source.{value_text, note_line, bracketed, line, member_text, ref_text, field_text}
use Rattle.xmltoproto.specs.internal.Bound.{named_most, note_most, typed_most, value_most, member_most, ref_most, field_by, field_most}
use Rattle.xmltoproto.proofs.Typing.{declared_so, declared-means}
use Rattle.xmltoproto.proofs.Lengths.{snake-most, screaming-most, prefix-most, decimal-most, quoted-most}

-- ---- what a type adds to its line

abbrev size : List ℕ → Proto → ℕ
size ind p = length (note_line ind p.note) + length p.word + length (bracketed p.option)

pick-size : (ind : List ℕ) (b : Bool) (x y : Proto) (n : ℕ) → (b ≡ true → size ind x ≤ n) → (b ≡ false → size ind y ≤ n) → size ind (pick b x y) ≤ n
pick-size ind true x y n h k = h refl
pick-size ind false x y n h k = k refl

no_note : (ind : List ℕ) → length (note_line ind []) ≡ 0
unfolding note_line
no_note ind = refl

named-size : (ind p : List ℕ) → size ind (as_named p) ≡ length p
unfolding as_named bracketed note_line
named-size ind p = omega arith

length-size : (ind w : List ℕ) (n : ℕ) (note : List ℕ) → size ind (of_length w n note) ≡ length (note_line ind note) + length w + 18 + length (decimal n)
unfolding of_length bracketed
length-size ind w n note = simp length-append (omega arith)

narrow_size : (ind w p : List ℕ) → size ind (narrow w p) ≡ length w + 22 + length p
unfolding narrow bracketed note_line
narrow_size ind w p = simp length-append (omega arith)

primitive-size : (ind p : List ℕ) → size ind (as_primitive p) ≤ 28 + length p
unfolding as_primitive
primitive-size ind p =
    pick-size ind (among p (ascii "int8" ∷ ascii "int16" ∷ [])) (narrow (ascii "int32") p) (pick (among p (ascii "uint8" ∷ ascii "uint16" ∷ [])) (narrow (ascii "uint32") p) (as_named p)) (28 + length p)
    (λ t. omega (arith, narrow_size ind (ascii "int32") p))
    (λ f. pick-size ind (among p (ascii "uint8" ∷ ascii "uint16" ∷ [])) (narrow (ascii "uint32") p) (as_named p) (28 + length p)
    (λ t. omega (arith, narrow_size ind (ascii "uint32") p))
    (λ g. omega (arith, named-size ind p)))

note-size : (ind e : List ℕ) → length ind ≤ 4 → compatible e ≡ false → length (note_line ind (note_on e)) ≤ note_most (length e)
unfolding note_line note_on note_most compatible cleaned trimmed trimmed_front trimmed_back
note-size ind [] h f = absurd (let z : ◌≡◌ {A = ℕ} 0 1 = cc in omega arith)
note-size ind (x ∷ e) h f = simp length-append (omega (arith, quoted-most (x ∷ e)))

-- an absent length prints as 1, which has one digit, as 0 has
chars-digits : (t : Form) → length (decimal (chars t)) ≡ length (decimal t.size)
unfolding chars decimal digits
chars-digits t =
    by-test (ltb 0 t.size)
    (λ y. rw y)
    (λ n. let z : t.size ≡ 0 = omega (arith, ltb-false 0 t.size n) in rw (n, z))

typed-size : (ind : List ℕ) (t : Form) → length ind ≤ 4 → size ind (proto_of t) ≤ 28 + length t.primitive + length (decimal t.size) + note_most (length t.encoding)
unfolding proto_of
typed-size ind t h =
    let most = 28 + length t.primitive + length (decimal t.size) + note_most (length t.encoding) in
    let text = of_length (ascii "string") (chars t) [] in
    let foreign = of_length (ascii "bytes") (chars t) (note_on t.encoding) in
    let raw = of_length (ascii "bytes") t.size [] in
    pick-size ind (is_char t) (pick (compatible t.encoding) text foreign) (pick (is_raw t) raw (as_primitive t.primitive)) most
    (λ y. pick-size ind (compatible t.encoding) text foreign most
    (λ y. omega (arith, length-size ind (ascii "string") (chars t) [], no_note ind, chars-digits t))
    (λ n. omega (arith, length-size ind (ascii "bytes") (chars t) (note_on t.encoding), note-size ind t.encoding h n, chars-digits t)))
    (λ n. pick-size ind (is_raw t) raw (as_primitive t.primitive) most
    (λ y. omega (arith, length-size ind (ascii "bytes") t.size [], no_note ind))
    (λ n. omega (arith, primitive-size ind t.primitive)))

-- ---- lines

line-length : (ind : List ℕ) (p : Proto) (w : List ℕ) (k : ℕ) → length (line ind p w k) ≡ size ind p + length ind + length w + length (decimal k) + 6
unfolding line
line-length ind p w k = simp length-append (omega arith)

module _ (ind : List ℕ) (h : length ind ≤ 4) (w : List ℕ) (k : ℕ) where
  named-line : (p : List ℕ) → length (line ind (as_named p) (camel_to_snake w) k) ≤ named_most (length w) (length (decimal k)) (length p)
  named-line p = omega (arith, line-length ind (as_named p) (camel_to_snake w) k, named-size ind p, snake-most w)

  typed-line : (t : Form) → length (line ind (proto_of t) (camel_to_snake w) k) ≤ typed_most (length w) (length (decimal k)) t
  typed-line t = omega (arith, line-length ind (proto_of t) (camel_to_snake w) k, typed-size ind t h, snake-most w)

pub value-most : (enum v : Item) → length (value_text enum.name v) ≤ value_most enum v
unfolding value_text
value-most enum v = simp length-append (omega (arith, prefix-most enum.name, screaming-most v.name))

pub member-most : (k : ℕ) → k < 4294967296 → (it : Item) → length (member_text k it) ≤ member_most it
unfolding member_text
member-most k h it = omega (arith, typed-line (ascii "  ") (omega arith) it.name k (form_of it), decimal-most k h)

pub ref-most : (k : ℕ) → k < 4294967296 → (it : Item) → length (ref_text k it) ≤ ref_most it
unfolding ref_text
ref-most k h it = omega (arith, named-line (ascii "  ") (omega arith) it.name k it.second, decimal-most k h)

pub field-most : (s : Schema) (ind : List ℕ) → length ind ≤ 4 → (f : Item) → length (field_text s ind f) ≤ field_most s f
unfolding field_text field_most built_in
field-most s ind h f = rw (← declared-means s f.second) (go (declaration_of s f.second))
  where
    go : (d : Option Declaration) → length (line ind (proto_by f.second (declared_so s f.second d)) (camel_to_snake f.name) f.number) ≤ field_by s f d
    go (Some Named) = named-line ind h f.name f.number f.second
    go (Some (Typed t)) = typed-line ind h f.name f.number (form_of (item_at s t))
    go None =
        by-test (among f.second built_ins)
        (λ y. rw y (typed-line ind h f.name f.number (built_in f.second)))
        (λ n. rw n (longer (named-line ind h f.name f.number f.second)))
      where
        longer : {x : ℕ} → x ≤ named_most (length f.name) (length (decimal f.number)) (length f.second) → x ≤ field_by s f None
        longer l = omega arith
