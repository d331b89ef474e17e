-- Rules: Markup. The events of a document: what stands at a position, and what follows it.
use Rattle.std.specs.Prelude.{List, ℕ, zero, suc, ◌+◌, ◌-◌, eqb, leb, length, Option, Some, None, Result, Ok, Err}
use Prim.Native.String.{String}
use Rattle.texts.specs.Choice.{pick}
use Rattle.texts.specs.Text.{ascii, piece}
use Rattle.texts.specs.Scan.{scan, until, is}
use Rattle.entities.specs.Entities.{decoded}
use Rattle.classes.specs.Class.{is_space, is_tag_name_end}
use Rattle.refusals.specs.declared.Refusal.{Refusal}
use Rattle.refusals.specs.declared.Refusal.TheVariants.{OpenComment, OpenInstruction, OpenDeclaration, NoCloseTagEnd, NoTagName}
use Rattle.tags.specs.declared.part.Ending.{Ending}
use Rattle.tags.specs.Find.{stands, find_from}
use Rattle.tags.specs.Names.{local_name}
use Rattle.tags.specs.Attributes.{tag_at}
use Rattle.saxlite.specs.Event.{Attributes, Events, text, opens, closes, done, broken, next, attributes_in}

-- Below, `go` gives the events from a position on, and the text or the markup begins at `at`.

-- text runs to the next '<' (60)
unfoldable pub text_at : (ℕ → Events) → List ℕ → ℕ → Events
text_at go doc at =
    let end = scan (until (is 60)) doc at in
    next at (text (decoded (piece doc at (end - at)))) (go end)

-- the events behind markup that is none, which the n bytes at i end; the refusal if nothing does
unfoldable pub past : (ℕ → Events) → ℕ → Option ℕ → Refusal → Events
past go n (Some i) refusal = go (i + n)
past go n None refusal = broken refusal

-- the same by the text that ends it, which is looked for from a position on
unfoldable pub past_end : (ℕ → Events) → String → List ℕ → ℕ → Refusal → Events
past_end go end doc from refusal = past go (length (ascii end)) (find_from (ascii end) doc from) refusal

-- a close tag: '</', a name that may be empty, spaces, '>' (else 14)
unfoldable pub close_at : (ℕ → Events) → List ℕ → ℕ → Events
close_at go doc at =
    let name = at + 2 in
    let end = scan (until is_tag_name_end) doc name in
    let due = scan is_space doc end in
    pick (stands ">" doc due) (next at (closes (local_name (piece doc name (end - name)))) (go (due + 1))) (broken (NoCloseTagEnd due at))

-- an open tag by how it ends: a self-closed one is an open, then a close
unfoldable pub open_by : (ℕ → Events) → ℕ → List ℕ → Attributes → Result Ending Refusal → Events
open_by go at name a (Ok ending) = next at (opens name a) (pick ending.self_closed (next at (closes name) (go ending.next)) (go ending.next))
open_by go at name a (Err refusal) = broken refusal

-- an open tag: '<', a name that is not empty (else 15), attributes, '>' or '/>'
unfoldable pub open_at : (ℕ → Events) → List ℕ → ℕ → Events
open_at go doc at =
    let name = at + 1 in
    let end = scan (until is_tag_name_end) doc name in
    pick (eqb end name) (broken (NoTagName name at)) (open_by go at (local_name (piece doc name (end - name))) (attributes_in doc end) (tag_at doc end at).ending)

-- by what stands at `at`
unfoldable pub events_at : (ℕ → Events) → List ℕ → ℕ → Events
events_at go doc at =
    pick (stands "<!--" doc at) (past_end go "-->" doc (at + 4) (OpenComment at))
    (pick (stands "<?" doc at) (past_end go "?>" doc (at + 2) (OpenInstruction at))
    (pick (stands "<!" doc at) (past_end go ">" doc (at + 2) (OpenDeclaration at))
    (pick (stands "</" doc at) (close_at go doc at)
    (pick (stands "<" doc at) (open_at go doc at)
    (text_at go doc at)))))

-- the events from a position on, of at most k pieces of text and markup. Each piece takes a byte,
-- so k above the document's length is always enough, and `spent` does not matter (Fuel.antt)
unfoldable pub events_within : Events → ℕ → List ℕ → ℕ → Events
events_within spent zero doc at = spent
events_within spent (suc k) doc at = pick (leb (length doc) at) done (events_at (events_within spent k doc) doc at)

-- the events from a position on
abbrev pub events_from : List ℕ → ℕ → Events
events_from doc at = events_within done (length doc + 1) doc at

-- the events of the whole document
abbrev pub events : List ℕ → Events
events doc = events_from doc 0
