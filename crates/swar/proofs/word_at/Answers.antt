use Rattle.std.proofs.Common.{arith}
use Rattle.swar.proofs.Digits.{word_read}
use Rattle.swar.proofs.word_at.Goals as goal

pub returns : goal.returns
returns c =
    rw (c.from.ensures, c.from-2.ensures, c.from-3.ensures, c.from-4.ensures, c.from-5.ensures, c.from-6.ensures, c.from-7.ensures, c.from-8.ensures)
    (word_read c.args.s.now c.args.i (λ j. omega (arith, c.type_inv.s j)) c.requires)
