use Rattle.std.proofs.Common.{arith}
use Rattle.xmltoproto.proofs.Lengths.{decimal-most}
use Rattle.xmltoproto.proofs.bound.has_few_digits.Goals as goal

pub returns : goal.returns
returns c = decimal-most c.args.n (omega arith)
