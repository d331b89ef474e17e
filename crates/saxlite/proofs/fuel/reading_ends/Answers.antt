use Rattle.saxlite.proofs.Following.{events-end, tags-end}
use Rattle.saxlite.proofs.fuel.reading_ends.Goals as goal

pub returns : goal.returns
returns c = record { events = events-end; tags = tags-end }
