use native.Mathlib.Omega.{arith}
use Rattle.printing.proofs.Sequencing.{◌▸◌}
use Rattle.printing.proofs.Passing.{then-within, then-printed}
use Rattle.printing.proofs.put_then.Goals as goal

pub bounds-out-p : goal.bounds-out-p
bounds-out-p c = then-within c.args.s.now c.copy-p.ensures (omega arith) (omega arith)

pub overflow_add-result : goal.overflow_add-result
overflow_add-result c = omega (arith, then-within c.args.s.now c.copy-p.ensures (omega arith) (omega arith))

pub returns-then-s-out : goal.returns-then-s-out
returns-then-s-out c = then-printed c.args.s.now c.copy-p.ensures (omega arith) (omega arith) c.args.b

pub returns : goal.returns
returns c = c.put_cut-p.ensures ▸ c.put_byte.ensures
