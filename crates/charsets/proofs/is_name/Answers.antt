use mathlib.Core.Path.{sym, ◌∙◌}
use Rattle.charsets.proofs.Cleaning.{name-filled}
use Rattle.charsets.proofs.is_name.Goals as goal

pub returns-else-w-eq0 : goal.returns-else-w-eq0
returns-else-w-eq0 c = c.is_among.ensures ∙ sym (name-filled c.args.w.now c.if-w-eq0.false)
