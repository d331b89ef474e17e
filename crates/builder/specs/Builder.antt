-- Rules: The builder. What one event makes of the builder's state.
use Rattle.std.specs.Prelude.{Bool, true, false, List, [], ◌∷◌, ◌++◌, ℕ, eqb, leb, length, set, Option, Some, None}
use Prim.Native.String.{String}
use Rattle.texts.specs.Choice.{pick}
use Rattle.texts.specs.Text.{ascii, same}
use Rattle.texts.specs.Trim.{trimmed}
use Rattle.refusals.specs.declared.Refusal.{Refusal}
use Rattle.refusals.specs.declared.Refusal.TheVariants.{WrongClose, BadNumber, MisplacedField, TooDeep, TooManyItems}
pub use Rattle.saxlite.specs.Event.{Attributes}
use Rattle.numbers.specs.Numbers.{number_of}
use Rattle.model.specs.Schema.{Item, Schema, item_at, under, last, a_type, a_member, a_ref, a_composite, an_enum, a_value, a_message, a_group, a_field}
use Rattle.elements.specs.Elements.{element_of}
use Rattle.elements.specs.declared.Element.{Element}
use Rattle.elements.specs.declared.Element.TheVariants as element
use Rattle.builder.specs.Limits.{Limits}

-- the current composite, enum, message and group, as positions among the items; each may be none
pub record Currents : Type 0 where
  pub composite : Option ℕ
  pub enum : Option ℕ
  pub message : Option ℕ
  pub group : Option ℕ

-- the scope's state of the builder: the open names, innermost first; the collected text, and
-- whether text is collected; what is current; the model so far
pub record Builder : Type 0 where
  pub stack : List (List ℕ)
  pub collected : List ℕ
  pub collecting : Bool
  pub current : Currents
  pub schema : Schema

-- what an event gives: a builder that goes on, or a refusal
pub data Outcome : Type 0 where
  on : Builder → Outcome
  refused : Refusal → Outcome

-- a text, empty where it is absent
abbrev pub or_empty : Option (List ℕ) → List ℕ
or_empty None = []
or_empty (Some s) = s

-- whether it is there
abbrev pub is_given : Option (List ℕ) → Bool
is_given None = false
is_given (Some s) = true

-- an attribute's text, empty where it is absent
abbrev pub text_in : Attributes → String → List ℕ
text_in a key = or_empty (a (ascii key))

-- the number in an attribute (Rules: Numbers), none where it is invalid
abbrev pub number_in : Attributes → String → Option ℕ
number_in a key = number_of (a (ascii key))

-- ---- a builder, or a schema, with one part changed

abbrev pub with_stack : List (List ℕ) → Builder → Builder
with_stack x b = record b { stack = x }

-- text is collected or not, and the collected text
abbrev pub with_text : Bool → List ℕ → Builder → Builder
with_text f x b = record b { collected = x; collecting = f }

abbrev pub with_current : Currents → Builder → Builder
with_current x b = record b { current = x }

abbrev pub with_schema : Schema → Builder → Builder
with_schema x b = record b { schema = x }

abbrev pub now_composite : Option ℕ → Builder → Builder
now_composite x b = with_current (record b.current { composite = x }) b

abbrev pub now_enum : Option ℕ → Builder → Builder
now_enum x b = with_current (record b.current { enum = x }) b

abbrev pub now_message : Option ℕ → Builder → Builder
now_message x b = with_current (record b.current { message = x }) b

abbrev pub now_group : Option ℕ → Builder → Builder
now_group x b = with_current (record b.current { group = x }) b

abbrev pub with_items : List Item → Schema → Schema
with_items x s = record s { items = x }

-- ---- items

-- the position of the next item
abbrev pub next_position : Builder → ℕ
next_position b = length b.schema.items

-- an item (the scope's "item") added at the end; 35 at the limit
unfoldable pub added : Limits → ℕ → Item → Builder → Outcome
added l place it b =
    pick (leb l.items (next_position b)) (refused (TooManyItems place))
    (on (with_schema (with_items (b.schema.items ++ (it ∷ [])) b.schema) b))

-- f applied to the builder, unless there is a refusal
abbrev pub and_then : (Builder → Builder) → Outcome → Outcome
and_then f (on b) = on (f b)
and_then f (refused r) = refused r

-- k applied to the number; 32 if it is invalid
abbrev pub with_number : ℕ → Option ℕ → (ℕ → Outcome) → Outcome
with_number place None k = refused (BadNumber place)
with_number place (Some n) k = k n

-- k applied to what is current, if something is; else the builder goes on
abbrev pub if_current : Option ℕ → Builder → (ℕ → Outcome) → Outcome
if_current None b k = on b
if_current (Some c) b k = k c

-- a type, or a member of a composite
abbrev pub type_item : ℕ → ℕ → Attributes → ℕ → Item
type_item kind owner a n =
    record {
      kind = kind;
      owner = owner;
      name = text_in a "name";
      second = text_in a "primitiveType";
      number = n;
      given = is_given (a (ascii "length"));
      encoding = text_in a "characterEncoding";
    }

-- any other item
abbrev pub plain_item : ℕ → ℕ → List ℕ → List ℕ → ℕ → Item
plain_item kind owner name second n =
    record {
      kind = kind;
      owner = owner;
      name = name;
      second = second;
      number = n;
      given = false;
      encoding = [];
    }

-- ---- open: what each element does; its name is pushed already

-- messageSchema: package, id and version are set, over what they were
unfoldable pub open_schema : ℕ → Attributes → Builder → Outcome
open_schema place a b =
    let name = text_in a "package" in
    with_number place (number_in a "id") (λ id.
    with_number place (number_in a "version") (λ version.
    on (with_schema (record b.schema { package_name = name; id = id; version = version }) b)))

-- type: inside an element called composite a member of the current one, dropped if none is current;
-- else a type of the schema
unfoldable pub open_type : Limits → ℕ → Bool → Attributes → Builder → Outcome
open_type l place inside a b =
    with_number place (number_in a "length") (λ n.
    pick inside
    (if_current b.current.composite b (λ c. added l place (type_item a_member c a n) b))
    (added l place (type_item a_type 0 a n) b))

-- ref: of the current composite, dropped if none is current
unfoldable pub open_ref : Limits → ℕ → Attributes → Builder → Outcome
open_ref l place a b =
    if_current b.current.composite b (λ c.
    added l place (plain_item a_ref c (text_in a "name") (text_in a "type") 0) b)

-- composite: added, and current from now on
unfoldable pub open_composite : Limits → ℕ → Attributes → Builder → Outcome
open_composite l place a b =
    and_then (now_composite (Some (next_position b)))
    (added l place (plain_item a_composite 0 (text_in a "name") [] 0) b)

-- enum: added, and current from now on
unfoldable pub open_enum : Limits → ℕ → Attributes → Builder → Outcome
open_enum l place a b =
    and_then (now_enum (Some (next_position b)))
    (added l place (plain_item an_enum 0 (text_in a "name") (text_in a "encodingType") 0) b)

-- validValue: the collected text is emptied; in a current enum a value is added, empty for now, and
-- text is collected from here on
unfoldable pub open_value : Limits → ℕ → Attributes → Builder → Outcome
open_value l place a b =
    if_current b.current.enum (with_text b.collecting [] b) (λ e.
    and_then (with_text true []) (added l place (plain_item a_value e (text_in a "name") [] 0) b))

-- message: added, and current from now on
unfoldable pub open_message : Limits → ℕ → Attributes → Builder → Outcome
open_message l place a b =
    with_number place (number_in a "id") (λ id.
    and_then (now_message (Some (next_position b)))
    (added l place (plain_item a_message 0 (text_in a "name") [] id) b))

-- group: of the current message, and current from now on; without a message only its id is read
unfoldable pub open_group : Limits → ℕ → Attributes → Builder → Outcome
open_group l place a b =
    with_number place (number_in a "id") (λ id.
    if_current b.current.message b (λ m.
    and_then (now_group (Some (next_position b)))
    (added l place (plain_item a_group m (text_in a "name") [] id) b)))

-- a field of an owner
abbrev pub field_under : Limits → ℕ → Attributes → ℕ → ℕ → Builder → Outcome
field_under l place a id owner b =
    added l place (plain_item a_field owner (text_in a "name") (text_in a "type") id) b

-- a field of the current group, which was opened under m (else 33), or of m if none is current
abbrev pub field_in : Limits → ℕ → Attributes → ℕ → ℕ → Option ℕ → Builder → Outcome
field_in l place a id m None b = field_under l place a id m b
field_in l place a id m (Some g) b =
    pick (eqb (item_at b.schema g).owner m) (field_under l place a id g b)
    (refused (MisplacedField place))

-- field: by the current message; without one only its id is read
unfoldable pub open_field : Limits → ℕ → Attributes → Builder → Outcome
open_field l place a b =
    with_number place (number_in a "id") (λ id.
    if_current b.current.message b (λ m. field_in l place a id m b.current.group b))

-- by element
abbrev pub open_by : Element → Limits → ℕ → Bool → Attributes → Builder → Outcome
open_by element.MessageSchema l place inside a b = open_schema place a b
open_by element.Type l place inside a b = open_type l place inside a b
open_by element.Ref l place inside a b = open_ref l place a b
open_by element.Composite l place inside a b = open_composite l place a b
open_by element.Enum l place inside a b = open_enum l place a b
open_by element.ValidValue l place inside a b = open_value l place a b
open_by element.Message l place inside a b = open_message l place a b
open_by element.Group l place inside a b = open_group l place a b
open_by element.Field l place inside a b = open_field l place a b
open_by element.Other l place inside a b = on b

-- the innermost open name, the empty one if nothing is open
abbrev pub top : List (List ℕ) → List ℕ
top [] = []
top (n ∷ ns) = n

-- the names below it
abbrev pub rest : List (List ℕ) → List (List ℕ)
rest [] = []
rest (n ∷ ns) = ns

-- an open tag pushes its name, then does what its element does; 34 at the depth limit
unfoldable pub opened : Limits → ℕ → List ℕ → Attributes → Builder → Outcome
opened l place name a b =
    pick (leb l.depth (length b.stack)) (refused (TooDeep place))
    (open_by (element_of name) l place (same (top b.stack) (ascii "composite")) a
    (with_stack (name ∷ b.stack) b))

-- ---- close

-- an item with another second text
abbrev pub with_second : List ℕ → Item → Item
with_second v it = record it { second = v }

-- v as the second text of the item at a position, if there is one
abbrev pub with_second_at : Option ℕ → List ℕ → Schema → Schema
with_second_at None v s = s
with_second_at (Some i) v s = with_items (set s.items i (with_second v (item_at s i))) s

-- the collected text, trimmed, is the last value of the current enum, if there is one
abbrev pub value_of_enum : Option ℕ → Builder → Builder
value_of_enum None b = b
value_of_enum (Some e) b =
    with_schema
    (with_second_at (last (under a_value e b.schema)) (trimmed b.collected) b.schema) b

-- validValue: that, then the collected text is emptied, and text is no longer collected
unfoldable pub close_value : Builder → Builder
close_value b = with_text false [] (value_of_enum b.current.enum b)

-- by element: composite, enum, message and group make the current one of their kind none
abbrev pub close_by : Element → Builder → Builder
close_by element.MessageSchema b = b
close_by element.Type b = b
close_by element.Ref b = b
close_by element.Composite b = now_composite None b
close_by element.Enum b = now_enum None b
close_by element.ValidValue b = close_value b
close_by element.Message b = now_message None b
close_by element.Group b = now_group None b
close_by element.Field b = b
close_by element.Other b = b

-- a close tag pops a name; 30 if that is not the tag's own
unfoldable pub closed : ℕ → List ℕ → Builder → Outcome
closed place name b =
    pick (same name (top b.stack)) (on (close_by (element_of name) (with_stack (rest b.stack) b)))
    (refused (WrongClose place))

-- ---- text is collected while the flag is set

unfoldable pub collect : List ℕ → Builder → Builder
collect s b = pick b.collecting (with_text true (b.collected ++ s) b) b
