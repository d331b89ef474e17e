use Rattle.names.proofs.Counting.{counts-start, counts-yes, counts-no, counts-all}
use Rattle.names.proofs.camel.joined_len.Goals as goal
use Rattle.names.proofs.camel.joined_len.Goals.{then-name-i-ne95, else-name-i-ne95}

pub loop-i-init : goal.loop-i-init
loop-i-init c = counts-start

pub loop-i-preserved : goal.loop-i-preserved
loop-i-preserved c =
    elim c.if-name-i-ne95.branch [
      | then-name-i-ne95 w ↦ counts-yes c.loop-i.invariant w.if-name-i-ne95.true w.n-is
      | else-name-i-ne95 w ↦ counts-no c.loop-i.invariant w.if-name-i-ne95.false w.n-is
    ]

pub returns : goal.returns
returns c = counts-all c.loop-i.invariant c.loop-i.auto.i-end c.loop-i-test.false
