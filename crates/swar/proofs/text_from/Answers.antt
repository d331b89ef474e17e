use Rattle.swar.proofs.Pairing.{text-on, text-stop}
use Rattle.swar.proofs.text_from.Goals as goal

pub returns-then-m-ne0 : goal.returns-then-m-ne0
returns-then-m-ne0 g c = text-stop c.loop-i.invariant c.marks_of-m.ensures

pub loop-i-preserved : goal.loop-i-preserved
loop-i-preserved g c = text-on c.loop-i.invariant c.marks_of-m.ensures c.if-m-ne0.false
