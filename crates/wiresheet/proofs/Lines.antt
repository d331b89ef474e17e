-- A line determines its kind, name and number: it determines the proto type, the option in brackets
-- and the encoding in the comment, and these determine the kind.
use Rattle.std.proofs.Common.{◌≡◌, refl, ap, sym, ◌∙◌, subst, not, List, [], ◌∷◌, ◌++◌, append_assoc, ℕ, T, T_not, take}
use mathlib.Core.Option.{Option, none, some}
use lib.Dec.{not_T}
use Rattle.texts.specs.Choice.{pick}
use Rattle.texts.specs.Text.{ascii, same}
use Rattle.texts.specs.Lists.{all, Every, among}
use Rattle.texts.proofs.Choosing.{by-test}
use Rattle.texts.proofs.Comparing.{same-equal}
use Rattle.classes.specs.Class.{is_upper, is_lower}
use Rattle.printing.specs.Decimal.{decimal}
use Rattle.escaping.specs.Escape.{quoted}
use Rattle.numbers.specs.Numbers.{is_digit}
use Rattle.xmltoproto.specs.Types.{Proto, built_ins, as_named, of_length, note_on, narrow, as_primitive}
use Rattle.xmltoproto.specs.Source.{note_line, bracketed, line}
use Rattle.wiresheet.specs.Plain.{is_letter, is_identifier, reserved}
use Rattle.wiresheet.specs.Sheet.{Kind, single, text, text_in, raw, named}
use Rattle.wiresheet.proofs.Splitting.{Splits, done, seq, lit, gives, apart, token, stops, ◌▹◌}
use Rattle.wiresheet.proofs.Numbers.{number}
use Rattle.wiresheet.proofs.Escapes.{quoted-unique}
use Rattle.wiresheet.proofs.Tokens.{but, Free, identifier-free}
use Rattle.wiresheet.proofs.Rendering.{as_kind}

-- ---- a kind seen as a word, a mark and perhaps an encoding

data Mark : Type 0 where
  bare : Mark
  encoded : List ℕ → Mark
  sized : ℕ → Mark

record View : Type 0 where
  word : List ℕ
  mark : Mark
  encoding : Option (List ℕ)

abbrev option_of : Mark → List ℕ
option_of bare = []
option_of (encoded p) = ascii "(sbe.encoding) = \"" ++ p ++ ascii "\""
option_of (sized n) = ascii "(sbe.length) = " ++ decimal n

abbrev note_for : Option (List ℕ) → List ℕ
note_for none = []
note_for (some e) = note_on e

abbrev viewed : View → Proto
viewed v = record { word = v.word; option = option_of v.mark; note = note_for v.encoding }

abbrev view : List ℕ → Mark → Option (List ℕ) → View
view w m e = record { word = w; mark = m; encoding = e }

abbrev view_of : Kind → View
view_of (single p) =
    pick (among p (ascii "int8" ∷ ascii "int16" ∷ [])) (view (ascii "int32") (encoded p) none)
    (pick (among p (ascii "uint8" ∷ ascii "uint16" ∷ [])) (view (ascii "uint32") (encoded p) none) (view p bare none))
view_of (text n) = view (ascii "string") (sized n) none
view_of (text_in n e) = view (ascii "bytes") (sized n) (some e)
view_of (raw n) = view (ascii "bytes") (sized n) none
view_of (named n) = view n bare none

as-viewed : (k : Kind) → as_kind k ≡ viewed (view_of k)
unfolding as_named of_length narrow as_primitive
as-viewed (single p) =
    by-test (among p (ascii "int8" ∷ ascii "int16" ∷ []))
    (λ t. rw t)
    (λ t. by-test (among p (ascii "uint8" ∷ ascii "uint16" ∷ [])) (λ u. rw (t, u)) (λ u. rw (t, u)))
as-viewed (text n) = refl
as-viewed (text_in n e) = refl
as-viewed (raw n) = refl
as-viewed (named n) = refl

-- and back
kind_in : Option (List ℕ) → List ℕ → Mark → Kind
kind_in none w bare = pick (among w built_ins) (single w) (named w)
kind_in none w (encoded p) = single p
kind_in none w (sized n) = pick (same w (ascii "string")) (text n) (raw n)
kind_in (some e) w bare = named w
kind_in (some e) w (encoded p) = named w
kind_in (some e) w (sized n) = text_in n e

-- ---- the kinds of plain schemas

abbrev pub OkKind : Kind → Type 0
OkKind (single p) = T (among p built_ins)
OkKind (text n) = Unit {0}
OkKind (text_in n e) = Unit {0}
OkKind (raw n) = Unit {0}
OkKind (named n) = T (is_identifier n) × T (not (among n reserved))

abbrev OkMark : Mark → Type 0
OkMark bare = Unit {0}
OkMark (encoded p) = Free 34 p
OkMark (sized n) = Unit {0}

-- words that begin a comment, an option or a message, but no line
abbrev pub openers : List (List ℕ)
openers = ascii "//" ∷ ascii "option" ∷ ascii "message" ∷ []

record OkView (v : View) : Type 0 where
  word : Free 32 v.word
  fresh : T (not (among v.word openers))
  mark : OkMark v.mark

record Known (k : Kind) : Type 0 where
  ok : OkView (view_of k)
  back : kind_in (view_of k).encoding (view_of k).word (view_of k).mark ≡ k

-- what holds of each of some words holds of a word among them
one_of : (P : List ℕ → Type 0) (w : List ℕ) (l : List (List ℕ)) → T (among w l) → Every P l → P w
unfolding among Every
one_of P w [] h e = absurd h
one_of P w (v ∷ l) h e =
    by-test (same w v)
    (λ t. subst P (sym (same-equal w v t)) e.0)
    (λ f. one_of P w l (rw f at h) e.1)

among-append : (w : List ℕ) (m l : List (List ℕ)) → T (among w l) → T (among w (m ++ l))
unfolding among
among-append w [] l h = h
among-append w (v ∷ m) l h = by-test (same w v) (λ t. rw t tt) (λ f. rw f (among-append w m l h))

-- an identifier that is not reserved
named-fresh : (n : List ℕ) → T (is_identifier n) → T (not (among n reserved)) → T (not (among n openers))
unfolding among same Every is_identifier is_letter is_upper is_lower
named-fresh n i r =
    not_T (among n openers) λ t.
    one_of (λ w. T (is_identifier w) → T (not (among w reserved)) → ⊥) n openers t (λ i r. i, (λ i r. r, (λ i r. r, tt))) i r

named_back : (n : List ℕ) → T (not (among n reserved)) → pick (among n built_ins) (single n) (named n) ≡ named n
named_back n r =
    by-test (among n built_ins)
    (λ t. absurd (T_not (among n reserved) r (among-append n (take 6 reserved) built_ins (rw t tt))))
    (λ f. rw f)

sure : {k : Kind} → Free 32 (view_of k).word → T (not (among (view_of k).word openers)) → OkMark (view_of k).mark → kind_in (view_of k).encoding (view_of k).word (view_of k).mark ≡ k → Known k
sure w f m b = record { ok = record { word = w; fresh = f; mark = m }; back = b }

known : (k : Kind) → OkKind k → Known k
unfolding kind_in all among same Every
known (single p) h =
    one_of (λ p. Known (single p)) p built_ins h (
      sure tt tt tt refl,
      (
        sure tt tt tt refl,
        (
          sure tt tt tt refl,
          (
            sure tt tt tt refl,
            (
              sure tt tt tt refl,
              (
                sure tt tt tt refl,
                (sure tt tt tt refl, (sure tt tt tt refl, (sure tt tt tt refl, (sure tt tt tt refl, (sure tt tt tt refl, tt))))),
              ),
            ),
          ),
        ),
      ),
    )
known (text n) h = sure tt tt tt refl
known (text_in n e) h = sure tt tt tt refl
known (raw n) h = sure tt tt tt refl
known (named n) h = sure (identifier-free n h.0) (named-fresh n h.0 h.1) tt (named_back n h.1)

-- ---- the line

abbrev tail : Mark → List ℕ
tail m = bracketed (option_of m) ▹ ascii ";\n"

tail-stops : (m : Mark) → T (stops is_digit (tail m))
unfolding bracketed is_digit
tail-stops bare = tt
tail-stops (encoded p) = tt
tail-stops (sized n) = tt

mark-unique : (a b : Mark) → OkMark a → OkMark b → Splits (tail a) (tail b) (a ≡ b)
unfolding bracketed is_digit
mark-unique bare bare g h = done (ascii ";\n") refl
mark-unique bare (encoded q) g h = apart tt
mark-unique bare (sized n) g h = apart tt
mark-unique (encoded p) bare g h = apart tt
mark-unique (encoded p) (encoded q) g h =
    simp append_assoc (lit (ascii " [(sbe.encoding) = \"") (token (but 34) p q g h tt tt λ e. done (ascii "\"];\n") (ap encoded e)))
mark-unique (encoded p) (sized n) g h = apart tt
mark-unique (sized m) bare g h = apart tt
mark-unique (sized m) (encoded q) g h = apart tt
mark-unique (sized m) (sized n) g h =
    simp append_assoc (lit (ascii " [(sbe.length) = ") (number m n tt tt λ e. done (ascii "];\n") (ap sized e)))

-- from the word on
abbrev rest : List ℕ → Mark → List ℕ → ℕ → List ℕ
rest w m x n = w ▹ ascii " " ▹ x ▹ ascii " = " ▹ decimal n ▹ tail m

record Agree (w w' : List ℕ) (m m' : Mark) (x x' : List ℕ) (n n' : ℕ) : Type 0 where
  word : w ≡ w'
  mark : m ≡ m'
  name : x ≡ x'
  number : n ≡ n'

module _ (a b : View) (ha : OkView a) (hb : OkView b) (x y : List ℕ) (hx : Free 32 x) (hy : Free 32 y) (m n : ℕ) where
  rest-unique : Splits (rest a.word a.mark x m) (rest b.word b.mark y n) (Agree a.word b.word a.mark b.mark x y m n)
  rest-unique =
      token (but 32) a.word b.word ha.word hb.word tt tt λ w.
      lit (ascii " ") (token (but 32) x y hx hy tt tt λ p.
      lit (ascii " = ") (number m n (tail-stops a.mark) (tail-stops b.mark) λ q.
      gives (mark-unique a.mark b.mark ha.mark hb.mark) λ k. record { word = w; mark = k; name = p; number = q }))

-- a note's line, and then
abbrev noted : List ℕ → List ℕ → List ℕ → List ℕ
noted indent e w = indent ▹ ascii "// SBE characterEncoding " ▹ quoted e ▹ ascii " is not UTF-8 compatible, so this field is bytes.\n" ▹ w

abbrev above : List ℕ → Option (List ℕ) → List ℕ → List ℕ
above indent none w = w
above indent (some e) w = noted indent e w

above-is : (indent : List ℕ) (e : Option (List ℕ)) (w : List ℕ) → note_line indent (note_for e) ++ w ≡ above indent e w
unfolding note_line note_on
above-is indent none w = refl
above-is indent (some e) w = simp append_assoc

line-is : (indent : List ℕ) (k : Kind) (x : List ℕ) (n : ℕ) → line indent (as_kind k) x n ≡ above indent (view_of k).encoding (indent ▹ rest (view_of k).word (view_of k).mark x n)
unfolding line
line-is indent k x n =
    rw (as-viewed k) (simp append_assoc (above-is indent (view_of k).encoding (indent ▹ rest (view_of k).word (view_of k).mark x n)))

-- the word of a line is none of those that begin no line
opener : (v : View) → OkView v → (w : List ℕ) → T (among w openers) → v.word ≡ w → ⊥
opener v h w t e = T_not (among v.word openers) h.fresh (rw e t)

-- a line of a plain kind determines kind, name and number
pub record Same (k k' : Kind) (x x' : List ℕ) (n n' : ℕ) : Type 0 where
  pub kind : k ≡ k'
  pub name : x ≡ x'
  pub number : n ≡ n'

pub line-unique : (indent : List ℕ) (k l : Kind) (x y : List ℕ) (m n : ℕ) → OkKind k → OkKind l → Free 32 x → Free 32 y → Splits (line indent (as_kind k) x m) (line indent (as_kind l) y n) (Same k l x y m n)
unfolding all among same
line-unique indent k l x y m n hk hl hx hy = rw (line-is indent k x m, line-is indent l y n) (gives (go a.encoding b.encoding) λ r. finish r.0 r.1)
  where
    a : View
    a = view_of k

    b : View
    b = view_of l

    ka : Known k
    ka = known k hk

    kb : Known l
    kb = known l hl

    both : Splits (rest a.word a.mark x m) (rest b.word b.mark y n) (Agree a.word b.word a.mark b.mark x y m n)
    both = rest-unique a b ka.ok kb.ok x y hx hy m n

    go : (d e : Option (List ℕ)) → Splits (above indent d (indent ▹ rest a.word a.mark x m)) (above indent e (indent ▹ rest b.word b.mark y n)) ((d ≡ e) × Agree a.word b.word a.mark b.mark x y m n)
    go none none = lit indent (gives both λ r. (refl, r))
    go none (some e) = lit indent (token (but 32) a.word (ascii "//") ka.ok.word tt tt tt λ q. absurd (opener a ka.ok (ascii "//") tt q))
    go (some d) none = lit indent (token (but 32) (ascii "//") b.word tt kb.ok.word tt tt λ q. absurd (opener b kb.ok (ascii "//") tt (sym q)))
    go (some d) (some e) =
        lit indent (lit (ascii "// SBE characterEncoding ") (seq (quoted-unique d e) λ q.
        lit (ascii " is not UTF-8 compatible, so this field is bytes.\n") (lit indent (gives both λ r. (ap some q, r)))))

    finish : a.encoding ≡ b.encoding → Agree a.word b.word a.mark b.mark x y m n → Same k l x y m n
    finish e r = record { kind = sym ka.back ∙ (λ i. kind_in (e i) (r.word i) (r.mark i)) ∙ kb.back; name = r.name; number = r.number }

-- it begins with its indent
pub line-indented : {u : List ℕ} (indent : List ℕ) (k : Kind) (x : List ℕ) (n : ℕ) → ((w : List ℕ) → Splits (indent ++ w) u ⊥) → Splits (line indent (as_kind k) x n) u ⊥
line-indented {u} indent k x n h = rw (line-is indent k x n) (go (view_of k).encoding)
  where
    go : (e : Option (List ℕ)) → Splits (above indent e (indent ▹ rest (view_of k).word (view_of k).mark x n)) u ⊥
    go none = h _
    go (some e) = h _

-- and not with the word of an option or a message
pub line-opens
    : (indent : List ℕ) (k : Kind) (x : List ℕ) (n : ℕ) (w r : List ℕ)
    → OkKind k → T (among w openers) → Free 32 w → (ascii "//" ≡ w → ⊥) → Splits (line indent (as_kind k) x n) (indent ▹ w ▹ ascii " " ▹ r) ⊥
unfolding all among same
line-opens indent k x n w r hk hw fw slashes = rw (line-is indent k x n) (go (view_of k).encoding)
  where
    go : (e : Option (List ℕ)) → Splits (above indent e (indent ▹ rest (view_of k).word (view_of k).mark x n)) (indent ▹ w ▹ ascii " " ▹ r) ⊥
    go none = let ok = (known k hk).ok in lit indent (token (but 32) (view_of k).word w ok.word fw tt tt λ q. absurd (opener (view_of k) ok w hw q))
    go (some e) = lit indent (token (but 32) (ascii "//") w tt fw tt tt λ q. absurd (slashes q))
