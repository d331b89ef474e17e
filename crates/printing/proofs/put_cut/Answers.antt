use Rattle.std.proofs.Common.{◌<◌, add-one, arith, length, take-suc}
use Rattle.printing.proofs.Sequencing.{blank, ◌▸◌}
use Rattle.printing.proofs.Passing.{counted}
use Rattle.printing.proofs.put_cut.Goals as goal

pub returns-then-out-at : goal.returns-then-out-at
returns-then-out-at c = counted _ (omega arith) (omega arith) c.skip.ensures

pub loop-b-init : goal.loop-b-init
loop-b-init c = blank

pub loop-b-preserved : goal.loop-b-preserved
loop-b-preserved c =
    let s = c.args.s.now in
    let h : c.loop-b.b-index < length s = omega arith in
    rw (add-one, take-suc s c.loop-b.b-index 0) (c.loop-b.invariant ▸ c.put_byte-p.ensures)
