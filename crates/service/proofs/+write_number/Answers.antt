use native.Mathlib.Omega.{arith}
use Rattle.printing.proofs.Decimals.{decimal-one, decimal-more}
use Rattle.printing.proofs.Writing.{◌▹◌}
use Rattle.service.proofs.+write_number.Goals as goal

pub returns-then-n-lt10 : goal.returns-then-n-lt10
returns-then-n-lt10 t c = rw (decimal-one c.args.n c.if-n-lt10.true) c.byte.ensures

pub returns-else-n-lt10 : goal.returns-else-n-lt10
returns-else-n-lt10 t c = rw (decimal-more c.args.n (omega arith)) (c.write_number.ensures ▹ c.byte-else-n-lt10.ensures)
