-- Rules: Markup. A tag: its parts, one after the other, up to its end; and the look-up of a name.
use Rattle.std.specs.Prelude.{true, false, List, [], ◌∷◌, ℕ, zero, suc, ◌+◌, ◌-◌, eqb, ltb, leb, length, Option, Some, None, Result, Ok, Err}
use Rattle.texts.specs.Choice.{pick}
use Rattle.texts.specs.Text.{piece, same}
use Rattle.texts.specs.Scan.{scan, until, is}
use Rattle.classes.specs.Class.{is_space, is_attribute_name_end}
use Rattle.texts.specs.declared.Range.{Range}
use Rattle.refusals.specs.declared.Refusal.{Refusal}
use Rattle.refusals.specs.declared.Refusal.TheVariants.{OpenTag, NoAttributeName, NoEquals, NoQuote, OpenValue}
use Rattle.tags.specs.declared.part.RawAttribute.{RawAttribute}
use Rattle.tags.specs.declared.part.TagPart.{TagPart}
use Rattle.tags.specs.declared.part.TagPart.TheVariants.{Attribute as Part, TagEnd}
use Rattle.tags.specs.declared.part.Ending.{Ending}
use Rattle.tags.specs.Find.{stands}
use Rattle.tags.specs.Names.{local_name, is_xmlns}

-- ---- one part of a tag, due at `at`; refusals hold `place`, the tag's '<'

-- the attribute whose value runs from a position to its closing quote
abbrev pub valued : Range → ℕ → ℕ → TagPart
valued name from end =
    Part (record { name = name; value = record { from = from; len = end - from }; next = end + 1 })

-- the value runs from `at` to the next such quote (else 20)
unfoldable pub quoted_at : ℕ → List ℕ → Range → ℕ → ℕ → Result TagPart Refusal
quoted_at quote doc name at place =
    let end = scan (until (is quote)) doc at in
    pick (ltb end (length doc)) (Ok (valued name at end)) (Err (OpenValue at place))

-- a value between two quotes (34) or two apostrophes (39) is due; 19 without one
unfoldable pub value_at : List ℕ → Range → ℕ → ℕ → Result TagPart Refusal
value_at doc name at place =
    pick (stands "\"" doc at) (quoted_at 34 doc name (at + 1) place)
    (pick (stands "'" doc at) (quoted_at 39 doc name (at + 1) place)
    (Err (NoQuote at place)))

-- an attribute is due: a name that is not empty (else 17), spaces, '=' (else 18), spaces, its value
unfoldable pub attribute_part_at : List ℕ → ℕ → ℕ → Result TagPart Refusal
attribute_part_at doc at place =
    let end = scan (until is_attribute_name_end) doc at in
    let name : Range = record { from = at; len = end - at } in
    let equals = scan is_space doc end in
    pick (eqb end at) (Err (NoAttributeName at place))
    (pick (stands "=" doc equals) (value_at doc name (scan is_space doc (equals + 1)) place)
    (Err (NoEquals equals place)))

-- behind spaces '>', '/>' or an attribute is due; 16 if the document ends
unfoldable pub tag_part_at : List ℕ → ℕ → ℕ → Result TagPart Refusal
tag_part_at doc at place =
    let i = scan is_space doc at in
    pick (leb (length doc) i) (Err (OpenTag i place))
    (pick (stands ">" doc i) (Ok (TagEnd (record { next = i + 1; self_closed = false })))
    (pick (stands "/>" doc i) (Ok (TagEnd (record { next = i + 2; self_closed = true })))
    (attribute_part_at doc i place)))

-- ---- a whole tag

-- an attribute that counts: its local name, and where its raw value lies in the document
pub record Attribute : Type 0 where
  pub name : List ℕ
  pub value : Range

-- a tag from where its attributes begin: these, in their order, and its end or a refusal
pub record Tag : Type 0 where
  pub attributes : List Attribute
  pub ending : Result Ending Refusal

-- the raw name of an attribute
abbrev pub raw_name : List ℕ → RawAttribute → List ℕ
raw_name doc a = piece doc a.name.from a.name.len

-- one more attribute before those of `rest`; `xmlns` and `xmlns:...` are dropped
unfoldable pub with_part : List ℕ → RawAttribute → Tag → Tag
with_part doc a rest =
    record {
      attributes =
          pick (is_xmlns (raw_name doc a)) rest.attributes
          (record { name = local_name (raw_name doc a); value = a.value } ∷ rest.attributes);
      ending = rest.ending;
    }

-- a tag of at most k parts, and what is `spent` where these are used up: each part takes a byte, so
-- k above the document's length is always enough, and `spent` does not matter
unfoldable pub tag_within : Tag → ℕ → List ℕ → ℕ → ℕ → Tag
tag_within spent zero doc at place = spent
tag_within spent (suc k) doc at place =
    elim (tag_part_at doc at place) [
      | Ok (Part a) ↦ with_part doc a (tag_within spent k doc a.next place)
      | Ok (TagEnd ending) ↦ record { attributes = []; ending = Ok ending }
      | Err refusal ↦ record { attributes = []; ending = Err refusal }
    ]

abbrev pub no_tag : Tag
no_tag = record { attributes = []; ending = Err (OpenTag 0 0) }

-- the tag whose attributes begin at `at`
abbrev pub tag_at : List ℕ → ℕ → ℕ → Tag
tag_at doc at place = tag_within no_tag (length doc + 1) doc at place

-- ---- the look-up of a name

-- of two values under one name the later counts
abbrev pub later : Option Range → Option Range → Option Range
later (Some found) earlier = Some found
later None earlier = earlier

-- the raw value of the last attribute of that name, if there is one
unfoldable pub last_of : List ℕ → List Attribute → Option Range
last_of name [] = None
last_of name (a ∷ more) = later (last_of name more) (pick (same a.name name) (Some a.value) None)

-- the same in the tag whose attributes begin at `at`. The place, here 0, matters to refusals alone
unfoldable pub attribute_at : List ℕ → ℕ → List ℕ → Option Range
attribute_at doc at name = last_of name (tag_at doc at 0).attributes

-- how many bytes of the document a raw value takes
abbrev pub raw_length : Option Range → ℕ
raw_length (Some found) = found.len
raw_length None = 0

-- and all those that are found under some names
abbrev pub raw_lengths : List ℕ → ℕ → List (List ℕ) → ℕ
raw_lengths doc at [] = 0
raw_lengths doc at (name ∷ names) = raw_length (attribute_at doc at name) + raw_lengths doc at names
