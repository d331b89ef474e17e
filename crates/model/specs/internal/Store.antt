-- How a schema lies in the model, the records and the text buffer. Internal: apart from the
-- builder, no crate above needs more than `schema_of` and `item_of`.
use Rattle.std.specs.Prelude.{List, [], ◌∷◌, ◌++◌, ℕ, zero, suc, ◌+◌, ◌*◌, eqb, get_or}
use Rattle.texts.specs.Text.{piece}
use Rattle.model.specs.Schema.{Item, Schema}
use Rattle.model.specs.declared.Entry.{Entry}
use Rattle.model.specs.declared.Model.{Model}

-- item i has the words 15 * i to 15 * i + 14; the last five are free
unfoldable pub entry_at : List ℕ → ℕ → Entry
entry_at rec i =
    record {
      kind = get_or rec (15 * i) 0;
      owner = get_or rec (15 * i + 1) 0;
      name = get_or rec (15 * i + 2) 0;
      nlen = get_or rec (15 * i + 3) 0;
      second = get_or rec (15 * i + 4) 0;
      slen = get_or rec (15 * i + 5) 0;
      number = get_or rec (15 * i + 6) 0;
      given = get_or rec (15 * i + 7) 0;
      encoding = get_or rec (15 * i + 8) 0;
      elen = get_or rec (15 * i + 9) 0;
    }

-- the ten words that an entry is stored as
abbrev pub words_of : Entry → List ℕ
words_of e =
    e.kind ∷ e.owner ∷ e.name ∷ e.nlen ∷ e.second ∷ e.slen
    ∷ e.number ∷ e.given ∷ e.encoding ∷ e.elen ∷ []

-- the item that an entry stands for; its texts are pieces of the text buffer
unfoldable pub item_of : List ℕ → Entry → Item
item_of text e =
    record {
      kind = e.kind;
      owner = e.owner;
      name = piece text e.name e.nlen;
      second = piece text e.second e.slen;
      number = e.number;
      given = eqb e.given 1;
      encoding = piece text e.encoding e.elen;
    }

-- the first n items
unfoldable pub items_of : ℕ → List ℕ → List ℕ → List Item
items_of zero rec text = []
items_of (suc n) rec text = items_of n rec text ++ (item_of text (entry_at rec n) ∷ [])

-- the schema that a model stands for
unfoldable pub schema_of : Model → List ℕ → List ℕ → Schema
schema_of m rec text =
    record {
      package_name = piece text m.head.name m.head.len;
      id = m.head.id;
      version = m.head.version;
      items = items_of m.count rec text;
    }
