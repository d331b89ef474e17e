-- Laws of what is sound and what is intact: what is asked or kept of a document that is not too long,
-- and of any.
use Rattle.std.proofs.Common.{Option, List, ℕ, ◌≤◌, arith, length}
use Rattle.texts.specs.declared.Range.{Range}
use Rattle.elements.specs.Keys.{Keys}
use Rattle.builder.specs.Limits.{max_document}
use Rattle.builder.specs.internal.Layout.{LongEnough, Suffice, Intact, Sound, RoomFor, Ready, IsTag, KnownTag}
use Rattle.builder.specs.internal.Taking.{CanRead, CanAdd, CanPut, CanOpen, Reads, Adds, Puts, ReadyToOpen}
use Rattle.model.specs.declared.Entry.{Entry}
use Rattle.builder.specs.declared.take.Draft.{Draft}
use Rattle.builder.specs.declared.state.State.{State}
use Rattle.builder.specs.declared.work.Tag.{Tag}
use Rattle.builder.specs.declared.work.Work.{Work}

pub suffice-long : {doc rec text : List ℕ} → Suffice doc rec text → LongEnough rec text
suffice-long h = record { records = h.records; bytes = h.bytes }

pub sound-intact : {w : Work} {s : State} → Sound w s → Intact w s
sound-intact k = record { within = k.within; lent = suffice-long k.lent; stable = k.stable }

pub intact-sound : {w : Work} {s : State} → Intact w s → length w.doc.now ≤ max_document → Sound w s
intact-sound k h = record { within = k.within; lent = record { document = h; records = k.lent.records; bytes = k.lent.bytes }; stable = k.stable }

pub ready-room : {w : Work} {s : State} {n : ℕ} → Ready w s n → RoomFor w s n
ready-room r = record { intact = sound-intact r.sound; room = r.room }

pub room-ready : {w : Work} {s : State} {n : ℕ} → RoomFor w s n → length w.doc.now ≤ max_document → Ready w s n
room-ready r h = record { sound = intact-sound r.intact h; room = r.room }

pub reads-can : (w : Work) (s : State) (tag : Tag) (f : Option Range) → Reads w s tag f → CanRead w s tag f
unfolding Reads CanRead
reads-can w s tag f r = (ready-room r.0, r.1)

pub adds-can : (w : Work) (s : State) (tag : Tag) (d : Draft) → Adds w s tag d → CanAdd w s tag d
unfolding Adds CanAdd
adds-can w s tag d r = (ready-room r.0, r.1)

pub puts-can : {w : Work} {s : State} {e : Entry} → Puts w s e → CanPut w s e
puts-can r = record { intact = sound-intact r.sound; steady = r.steady; low = r.low; high = r.high }

pub opens-can : {k : Keys} {w : Work} {s : State} {tag : Tag} → ReadyToOpen k w s tag → CanOpen k w s tag
opens-can r = record { room = ready-room r.ready; tagged = r.tagged; noted = r.noted }

pub tag-known : {doc : List ℕ} {tag : Tag} → IsTag doc tag → length doc ≤ max_document → KnownTag doc tag
tag-known t h = record { tagged = t.tagged; named = t.named; noted = t.noted; inside = omega (arith, t.inside, h) }
