-- An array of `per_item` numbers an item and one for each chain, as the `LINKS_*` of index.
use Rattle.std.proofs.Common.{◌*◌, ◌+◌, arith}
use Rattle.index.specs.Blank.{per_item}
use Rattle.index.proofs.Building.{blank-few, blank}
use Rattle.xmltoproto.proofs.generate.Goals as goal

pub generate_with-requires : goal.generate_with-requires
generate_with-requires c = (blank-few c.args.schema (per_item * 16 + 128) (omega arith) (omega arith), omega arith)

pub generate_with-requires-then-n-le-ITEMS_128 : goal.generate_with-requires-then-n-le-ITEMS_128
generate_with-requires-then-n-le-ITEMS_128 c = (blank-few c.args.schema (per_item * 128 + 128) (omega arith) (omega arith), omega arith)

pub generate_with-requires-then-n-le-ITEMS_384 : goal.generate_with-requires-then-n-le-ITEMS_384
generate_with-requires-then-n-le-ITEMS_384 c = (blank c.args.schema (per_item * 384 + 1024) (omega arith), omega arith)

pub generate_with-requires-2 : goal.generate_with-requires-2
generate_with-requires-2 c = (blank c.args.schema (per_item * 1024 + 1024) (let f = c.count-n.ensures.few in omega arith), omega arith)
