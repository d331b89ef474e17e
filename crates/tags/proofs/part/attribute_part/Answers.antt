use borrow.Author.Rules.{rules}
use Rattle.tags.proofs.Searching.{stands-fits}
use Rattle.tags.proofs.part.attribute_part.Goals as goal

pub overflow_add-equals : goal.overflow_add-equals
overflow_add-equals c = search (stands-fits, rules)
