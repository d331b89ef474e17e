-- What is noted of a tag as it is read: the last values under the names that its element looks up.
use Rattle.std.specs.Prelude.{◌≡◌, List, ℕ, zero, suc, ◌+◌, Option, Some, None}
use Rattle.texts.specs.Choice.{pick}
use Rattle.texts.specs.Text.{same}
use Rattle.texts.specs.declared.Range.{Range}
use Rattle.elements.specs.Keys.{Keys}
use Rattle.tags.specs.declared.noting.Notes.{Notes}
use Rattle.tags.specs.declared.noting.Matches.{Matches}
use Rattle.tags.specs.Names.{local_name, is_xmlns}
use Rattle.tags.specs.declared.part.RawAttribute.{RawAttribute}
use Rattle.tags.specs.Attributes.{raw_name, later, attribute_at}

-- ---- what notes hold

-- a value: 1 + where it begins, or 0 for none, and its length
unfoldable pub found_at : ℕ → ℕ → Option Range
found_at zero len = None
found_at (suc from) len = Some (record { from = from; len = len })

-- the four values
abbrev pub noted_number : Notes → Option Range
noted_number n = found_at n.number n.number_len

abbrev pub noted_name : Notes → Option Range
noted_name n = found_at n.name n.name_len

abbrev pub noted_second : Notes → Option Range
noted_second n = found_at n.second n.second_len

abbrev pub noted_encoding : Notes → Option Range
noted_encoding n = found_at n.encoding n.encoding_len

-- none
abbrev pub no_notes : Notes
no_notes =
    record {
      number = 0;
      number_len = 0;
      name = 0;
      name_len = 0;
      second = 0;
      second_len = 0;
      encoding = 0;
      encoding_len = 0;
    }

-- they are what a look-up of the four names finds in the tag whose attributes begin at `at`
pub record NotedBy (k : Keys) (doc : List ℕ) (at : ℕ) (noted : Notes) : Type 0 where
  pub number : noted_number noted ≡ attribute_at doc at k.number
  pub name : noted_name noted ≡ attribute_at doc at k.name
  pub second : noted_second noted ≡ attribute_at doc at k.second
  pub encoding : noted_encoding noted ≡ attribute_at doc at k.encoding

-- ---- what one attribute adds

-- an attribute's value, if its local name is `key` and its raw name declares no namespace
abbrev pub value_if_named : List ℕ → Range → List ℕ → Option Range
value_if_named raw value key =
    pick (is_xmlns raw) None
    (pick (same (local_name raw) key) (Some value) None)

-- with that value, if it counts, what was found is r
abbrev pub FoundMore : List ℕ → Range → List ℕ → Option Range → Option Range → Type 0
FoundMore raw value key was r = r ≡ later (value_if_named raw value key) was

-- r are the notes `was` with one more attribute, of that raw name, under the four names
pub record NotedMore (raw : List ℕ) (value : Range) (k : Keys) (was r : Notes) : Type 0 where
  pub number : FoundMore raw value k.number (noted_number was) (noted_number r)
  pub name : FoundMore raw value k.name (noted_name was) (noted_name r)
  pub second : FoundMore raw value k.second (noted_second was) (noted_second r)
  pub encoding : FoundMore raw value k.encoding (noted_encoding was) (noted_encoding r)

-- with the attribute a
abbrev pub NotedWith : List ℕ → RawAttribute → Keys → Notes → Notes → Type 0
NotedWith doc a k was r = NotedMore (raw_name doc a) a.value k was r

-- which of four names a local name is
abbrev pub matches_of : List ℕ → Keys → Matches
matches_of local k =
    record {
      number = same local k.number;
      name = same local k.name;
      second = same local k.second;
      encoding = same local k.encoding;
    }

-- the notes with a value under each name that an attribute has
abbrev pub with_value : Matches → Range → Notes → Notes
with_value n value was =
    record {
      number = pick n.number (value.from + 1) was.number;
      number_len = pick n.number value.len was.number_len;
      name = pick n.name (value.from + 1) was.name;
      name_len = pick n.name value.len was.name_len;
      second = pick n.second (value.from + 1) was.second;
      second_len = pick n.second value.len was.second_len;
      encoding = pick n.encoding (value.from + 1) was.encoding;
      encoding_len = pick n.encoding value.len was.encoding_len;
    }
