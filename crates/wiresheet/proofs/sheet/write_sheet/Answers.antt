-- An array of `per_item` numbers an item and one for each chain, as `LINKS_1024` of index.
use Rattle.std.proofs.Common.{◌*◌, ◌+◌, arith}
use Rattle.index.specs.Blank.{per_item}
use Rattle.index.proofs.Building.{blank}
use Rattle.wiresheet.proofs.sheet.write_sheet.Goals as goal

pub of-requires : goal.of-requires
of-requires c = blank c.args.schema (per_item * 1024 + 1024) (let f = c.count-count.ensures.few in omega arith)
