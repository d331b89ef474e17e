use Rattle.saxlite.proofs.Reading.{asked-end}
use Rattle.saxlite.proofs.event.Cursor.read_on.Goals as goal

pub returns-then-doc-at : goal.returns-then-doc-at
returns-then-doc-at c = asked-end _ _ c.requires c.past_silent.ensures c.in_ok-at.was c.if-doc-at.true
