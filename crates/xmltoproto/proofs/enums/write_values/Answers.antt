use Rattle.std.proofs.Common.{arith}
use Rattle.xmltoproto.proofs.Looping.{walking_on, walking-end, walking-length}
use Rattle.xmltoproto.proofs.Sources.{value-standing}
use Rattle.xmltoproto.proofs.enums.write_values.Goals as goal

pub loop-i-preserved : goal.loop-i-preserved
loop-i-preserved c = let kept = walking-length c.loop-i.invariant.walking in record { walking = walking_on c.loop-i.invariant.walking c.in-Some.ensures.steps c.write_value.ensures; standing = value-standing _ _ (omega (arith, kept)) c.after-stands.ensures c.write_value.ensures }

pub returns : goal.returns
returns c = walking-end c.loop-i.invariant.walking c.in-None.ensures.steps.0
