use Rattle.index.proofs.Hashing.{masked-many, masked-few}
use Rattle.index.proofs.masked.Goals as goal

pub returns-then-n-gt-ITEMS_128 : goal.returns-then-n-gt-ITEMS_128
returns-then-n-gt-ITEMS_128 c = masked-many _ c.if-n-gt-ITEMS_128.true

pub returns : goal.returns
returns c = masked-few _ c.if-n-gt-ITEMS_128.false
