-- Laws of one step, by event.
use Rattle.std.proofs.Common.{◌≡◌, List, ℕ, ◌-◌, ◌≤◌, length, Result}
use Rattle.texts.specs.declared.Range.{Range}
use Rattle.texts.specs.Text.{piece}
use Rattle.refusals.specs.declared.Refusal.{Refusal}
use Rattle.tags.specs.declared.noting.Notes.{Notes}
use Rattle.entities.specs.Entities.{decoded}
use Rattle.elements.specs.Elements.{element_of}
use Rattle.elements.specs.declared.Element.{Element}
use Rattle.saxlite.specs.Event.{attributes_in}
use Rattle.saxlite.specs.Reader.{event_in}
use Rattle.saxlite.specs.internal.Moving.{takes, Inside, IsElement, NotedIn}
use Rattle.saxlite.specs.declared.event.Event.{Event}
use Rattle.saxlite.specs.declared.event.Event.TheVariants.{Text, Open, Close}
use Rattle.builder.specs.Builder.{Builder, on, opened, closed, collect}
use Rattle.builder.specs.Limits.{max_document}
use Rattle.builder.specs.internal.Layout.{RoomFor, Ready, IsTag, After}
use Rattle.builder.specs.declared.state.State.{State}
use Rattle.builder.specs.declared.work.Work.{Work}
use Rattle.xmlschema.specs.Whole.{step}

module _ (w : Work) (place : ℕ) (ev : Event) {s : State} (b : Builder) {w' : Work} {r : Result State Refusal} where
  pub step-text : {at : Range} → ev ≡ Text at → After (on (collect (decoded (piece w.doc.now at.from at.len)) b)) w s at.len w' r → After (step w.limits place (event_in w.doc.now ev) b) w s (takes ev) w' r
  step-text e a = rw e a

  pub step-open :
      {name : Range} {attributes next : ℕ} → ev ≡ Open name attributes next
      → After (opened w.limits place (piece w.doc.now name.from name.len) (attributes_in w.doc.now attributes) b) w s (next - attributes) w' r → After (step w.limits place (event_in w.doc.now ev) b) w s (takes ev) w' r
  step-open e a = rw e a

  pub step-close : {name : Range} → ev ≡ Close name → After (closed place (piece w.doc.now name.from name.len) b) w s 0 w' r → After (step w.limits place (event_in w.doc.now ev) b) w s (takes ev) w' r
  step-close e a = rw e a

module _ (w : Work) (ev : Event) (s : State) (k : RoomFor w s (takes ev)) where
  pub text-ready : {at : Range} → ev ≡ Text at → RoomFor w s at.len
  text-ready e = rw e at k

  pub tag-ready : {name : Range} {attributes next : ℕ} → ev ≡ Open name attributes next → RoomFor w s (next - attributes)
  tag-ready e = rw e at k

-- the document is not too long
pub ready-document : {w : Work} {s : State} {n : ℕ} → Ready w s n → length w.doc.now ≤ max_document
ready-document r = r.sound.lent.document

pub tag-is :
    (doc : List ℕ) (place : ℕ) (ev : Event) {name : Range} {attributes next : ℕ} → ev ≡ Open name attributes next → Inside doc ev → {element : Element} → IsElement doc ev element → {noted : Notes} → NotedIn doc ev element noted
    → IsTag doc (record { place = place; name = name; element = element; attributes = attributes; next = next; noted = noted })
tag-is doc place ev e i {element} q {noted} m =
    let a = rw e at i in
    record { tagged = a.0; named = rw e at q; noted = rw e at m; inside = a.1 }

pub close-is : (doc : List ℕ) (ev : Event) {name : Range} → ev ≡ Close name → {element : Element} → IsElement doc ev element → element ≡ element_of (piece doc name.from name.len)
close-is doc ev e q = rw e at q
