use borrow.Author.Rules.{rules}
use Rattle.tags.proofs.Parting.{quoted-empty, quoted-single}
use Rattle.tags.proofs.part.short_or_quoted.Goals as goal

pub returns-then-doc-at : goal.returns-then-doc-at
returns-then-doc-at c = search (quoted-empty, rules)

pub returns-then-doc-at-2 : goal.returns-then-doc-at-2
returns-then-doc-at-2 c = search (quoted-single, rules)
