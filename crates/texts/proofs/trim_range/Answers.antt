use native.Mathlib.Omega.{arith}
use Rattle.texts.proofs.Trimming.{trim-fits, range-is}
use Rattle.texts.proofs.trim_range.Goals as goal

pub overflow_add-start : goal.overflow_add-start
overflow_add-start c =
    let a = c.args in
    let h = trim-fits a.s.now a.from a.len c.scan_each-a.result _ c.part-whole.ensures c.scan_each-a.ensures in
    omega (arith, h 18446744073709551615 (omega arith) (omega arith))

pub returns : goal.returns
returns c =
    range-is c.args.s.now c.args.from c.args.len _ c.part-whole.result.now c.part-whole.ensures c.scan_each-a.ensures c.part-rest.ensures c.kept.ensures
