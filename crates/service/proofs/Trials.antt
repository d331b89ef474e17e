-- A trial of the definition of a refusal's line: offset and place differ.
use mathlib.Core.Path.{◌≡◌, refl}
use Rattle.texts.specs.Text.{ascii}
use Rattle.refusals.specs.declared.Refusal.TheVariants.{NoEquals, WrongClose}
use Rattle.printing.specs.Decimal.{decimal, digits}
use Rattle.service.specs.Printed.{refusal_line}

-- `<a b></a>` after 49 other bytes
no_equals : refusal_line (NoEquals 53 49) ≡ ascii "refused\t18\t53\t49\n"
unfolding decimal digits
no_equals = refl

-- `<a><b></a>`
wrong_close : refusal_line (WrongClose 6) ≡ ascii "refused\t30\t0\t6\n"
unfolding decimal digits
wrong_close = refl
