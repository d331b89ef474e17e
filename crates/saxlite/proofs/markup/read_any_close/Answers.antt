use Rattle.saxlite.proofs.Telling.{telling}
use Rattle.saxlite.proofs.markup.read_any_close.Goals as goal

pub overflow_add-next : goal.overflow_add-next
overflow_add-next c = search telling
