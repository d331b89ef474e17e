use Rattle.std.proofs.Common.{refl, ◌+◌, arith}
use Rattle.std.proofs.lemmas.List.{get_or_past}
use Rattle.classes.specs.Class.{is_lower}
use Rattle.names.proofs.snake.precedes_lower.Goals as goal

pub returns-then-name-i : goal.returns-then-name-i
unfolding is_lower
returns-then-name-i c = rw (get_or_past c.args.name.now (c.args.i + 1) 0 (omega (arith, c.if-name-i.true))) refl
