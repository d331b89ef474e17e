use Rattle.std.proofs.Common.{arith}
use Rattle.swar.proofs.Digits.{half-read}
use Rattle.swar.proofs.half_at.Goals as goal

pub returns : goal.returns
returns c =
    rw (c.from.ensures, c.from-2.ensures, c.from-3.ensures, c.from-4.ensures)
    (half-read c.args.s.now c.args.i (λ j. omega (arith, c.type_inv.s j)) c.requires)
