use borrow.Author.Rules.{rules}
use Rattle.tags.proofs.Searching.{stands-fits}
use Rattle.tags.proofs.Dropping.{passed-whole}
use Rattle.tags.proofs.namespaces.past_namespace.Goals as goal

pub overflow_add-equals : goal.overflow_add-equals
overflow_add-equals c = search (stands-fits, rules)

pub returns : goal.returns
returns c = search (passed-whole, rules)
