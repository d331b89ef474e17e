-- Attributes with well-known names, which have codes from 1 on.
use Rattle.std.specs.Prelude.{◌≡◌, Bool, true, false, not, List, [], ◌∷◌, ◌++◌, ℕ, zero, suc, ◌+◌, ◌<◌, T, eqb, leb, length, drop, Option, Some, None, Result, Ok, Err}
use Rattle.texts.specs.Choice.{pick, ◌and◌, ◌or◌}
use Rattle.texts.specs.Text.{ascii, same, starts_with}
use Rattle.refusals.specs.declared.Refusal.{Refusal}
use Rattle.swar.specs.internal.Standing.{ShortText, LongText}
use Rattle.elements.specs.Keys.{Keys, keys_of}
use Rattle.elements.specs.declared.Element.{Element}
use Rattle.tags.specs.declared.known.Known.{Known}
use Rattle.tags.specs.declared.known.Codes.{Codes}
use Rattle.tags.specs.declared.part.TagPart.{TagPart}
use Rattle.tags.specs.declared.part.TagPart.TheVariants.{Attribute as Part, TagEnd}
use Rattle.tags.specs.declared.part.Quick.{Quick}
use Rattle.tags.specs.Names.{is_xmlns}
use Rattle.tags.specs.Attributes.{raw_name, tag_part_at}

-- the k-th of some texts, from 0 on
abbrev pub nth : List (List ℕ) → ℕ → List ℕ
nth [] k = []
nth (w ∷ ws) zero = w
nth (w ∷ ws) (suc k) = nth ws k

-- the name of a code
abbrev pub known_name : ℕ → List ℕ
known_name = nth ([] ∷ ascii "name" ∷ ascii "id" ∷ ascii "type" ∷ ascii "length" ∷ ascii "primitiveType" ∷ ascii "encodingType" ∷ ascii "characterEncoding" ∷ ascii "version" ∷ ascii "package" ∷ ascii "description" ∷ ascii "semanticType" ∷ ascii "offset" ∷ ascii "blockLength" ∷ ascii "presence" ∷ ascii "sinceVersion" ∷ ascii "byteOrder" ∷ ascii "semanticVersion" ∷ [])

-- with '=' and '"' behind it, as it is nearly always written
abbrev pub known_text : ℕ → List ℕ
known_text code = known_name code ++ ascii "=\""

-- k's text stands at `at`; its skip counts from the byte before `at` to the value
pub record IsKnown (doc : List ℕ) (at : ℕ) (k : Known) : Type 0 where
  pub above : 0 < k.code
  pub below : k.code < 18
  pub stands : starts_with (known_text k.code) (drop at doc) ≡ true
  pub ahead : k.skip ≡ length (known_name k.code) + 3

-- none, or a known attribute at `at`
abbrev pub KnownAt : List ℕ → ℕ → Option Known → Type 0
KnownAt doc at None = Unit {0}
KnownAt doc at (Some k) = IsKnown doc at k

-- such a text of fewer than eight bytes, by its integers
pub record KnownShort (code skip modulus front : ℕ) : Type 0 where
  pub above : 0 < code
  pub below : code < 18
  pub ahead : skip ≡ length (known_name code) + 3
  pub text : ShortText (known_text code) modulus front

-- one of 8 to 15 bytes
pub record KnownLong (code skip front modulus back : ℕ) : Type 0 where
  pub above : 0 < code
  pub below : code < 18
  pub ahead : skip ≡ length (known_name code) + 3
  pub text : LongText (known_text code) front modulus back

-- and a longer one, as it stands
pub record KnownText (code skip : ℕ) (w : List ℕ) : Type 0 where
  pub above : 0 < code
  pub below : code < 18
  pub ahead : skip ≡ length (known_name code) + 3
  pub text : w ≡ known_text code

-- ---- the codes of the names that matter in a tag

-- the test p holds of 1 to n
abbrev pub holds_to : ℕ → (ℕ → Bool) → Bool
holds_to zero p = true
holds_to (suc n) p = p (suc n) and holds_to n p

-- c is the code of the name `key`, 0 if `key` is not known; codes above 9 matter in no tag
abbrev pub codes : List ℕ → ℕ → Bool
codes key c =
    leb c 9 and holds_to 17 (λ k. pick (eqb k c) (same (known_name k) key) (not (same (known_name k) key)))

-- c holds the codes of the four names
pub record CodesOf (k : Keys) (c : Codes) : Type 0 where
  pub number : T (codes k.number c.number)
  pub name : T (codes k.name c.name)
  pub second : T (codes k.second c.second)
  pub encoding : T (codes k.encoding c.encoding)

-- two codes differ, or are 0
abbrev pub differ : ℕ → ℕ → Bool
differ c d = eqb c 0 or not (eqb c d)

-- the codes differ: an attribute has at most one of the names
pub record Apart (c : Codes) : Type 0 where
  pub number-name : T (differ c.number c.name)
  pub number-second : T (differ c.number c.second)
  pub number-encoding : T (differ c.number c.encoding)
  pub name-second : T (differ c.name c.second)
  pub name-encoding : T (differ c.name c.encoding)
  pub second-encoding : T (differ c.second c.encoding)

-- c are the codes of the element's names
abbrev pub CodesFor : Element → Codes → Type 0
CodesFor e c = CodesOf (keys_of e) c × Apart c

-- ---- a part of a tag

-- if the part is an attribute, its raw name is that of the code
abbrev pub Named : List ℕ → ℕ → Result TagPart Refusal → Type 0
Named doc code (Ok (Part a)) = (0 < code) × (code < 18) × (raw_name doc a ≡ known_name code)
Named doc code (Ok (TagEnd ending)) = Unit {0}
Named doc code (Err refusal) = Unit {0}

-- r is the part of a tag that is due at `at`, and its code, if any, is that of the name
pub record QuickAt (doc : List ℕ) (at place : ℕ) (r : Quick) : Type 0 where
  pub is : r.part ≡ tag_part_at doc at place
  pub named : (code : ℕ) → r.code ≡ Some code → Named doc code r.part

-- that raw name is that of the code, if there is one
pub record NamedAs (raw : List ℕ) (code : Option ℕ) : Type 0 where
  pub named : (k : ℕ) → code ≡ Some k → (0 < k) × (k < 18) × (raw ≡ known_name k)

-- true says that the raw name declares a namespace; false, without a code, that it does not
pub record IsNamespace (raw : List ℕ) (code : Option ℕ) (r : Bool) : Type 0 where
  pub yes : r ≡ true → is_xmlns raw ≡ true
  pub no : r ≡ false → code ≡ None → is_xmlns raw ≡ false
