-- `search` closes these goals with the rule set named here; `using(..)` with that set does not.
use Rattle.tags.proofs.Coding.{known-number, known-name, known-second, known-encoding}
use Rattle.tags.proofs.Laws.{laws}
use Rattle.tags.proofs.noting.noted_known.Goals as goal

pub returns-then-past : goal.returns-then-past
returns-then-past c = search laws

pub returns : goal.returns
returns c = search laws

pub returns-then-code-codes : goal.returns-then-code-codes
returns-then-code-codes c = λ k t. known-number _ c.requires.0 c.requires.1 _ _ _ c.requires.3 k t c.if-code-codes.true

pub returns-then-code-codes-2 : goal.returns-then-code-codes-2
returns-then-code-codes-2 c = λ k t. known-name _ c.requires.0 c.requires.1 _ _ _ c.requires.3 k t c.if-code-codes-2.true

pub returns-then-code-codes-3 : goal.returns-then-code-codes-3
returns-then-code-codes-3 c = λ k t. known-second _ c.requires.0 c.requires.1 _ _ _ c.requires.3 k t c.if-code-codes-3.true

pub returns-then-code-codes-4 : goal.returns-then-code-codes-4
returns-then-code-codes-4 c = λ k t. known-encoding _ c.requires.0 c.requires.1 _ _ _ c.requires.3 k t c.if-code-codes-4.true
