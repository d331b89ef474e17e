use native.Mathlib.Omega.{arith}
use Rattle.printing.proofs.Passing.{two-printed}
use Rattle.printing.proofs.copy_two.Goals as goal

pub returns : goal.returns
returns g c = two-printed g.row.N c.args.s.now c.args.out.now c.args.at (omega arith) (omega arith) (omega arith) (omega arith) c.copy_few.ensures c.copy_few-2.ensures
