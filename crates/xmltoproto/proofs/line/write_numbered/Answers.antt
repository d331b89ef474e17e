use Rattle.printing.proofs.Decimals.{decimal-one}
use Rattle.xmltoproto.proofs.line.write_numbered.Goals as goal

pub returns-then-n-lt10 : goal.returns-then-n-lt10
returns-then-n-lt10 c = rw (decimal-one c.args.n c.if-n-lt10.true) c.text_then.ensures
