use Rattle.std.proofs.Common.{arith, refl}
use Rattle.printing.specs.Output.{output_after}
use Rattle.printing.proofs.Finishing.{no_room, wrote, wrote-output}
use Rattle.printing.proofs.finish.Goals as goal

pub returns-then-out-n : goal.returns-then-out-n
unfolding output_after
returns-then-out-n g c = record { is = no_room _ c.print_whole-n.ensures (omega arith); output = refl }

pub returns : goal.returns
returns g c =
    let h = wrote c.print_whole-n.ensures c.if-out-n.false (omega arith) c.print_whole.ensures in
    record { is = h; output = rw h (wrote-output c.print_whole-n.ensures c.if-out-n.false (omega arith) c.print_whole.ensures) }
