use Rattle.saxlite.proofs.Telling.{known-told}
use Rattle.saxlite.proofs.markup.read_close.Goals as goal

pub returns-in-Some : goal.returns-in-Some
returns-in-Some c = known-told _ _ (rw c.in-Some.is at c.closing_at.ensures) c.bare.ensures
