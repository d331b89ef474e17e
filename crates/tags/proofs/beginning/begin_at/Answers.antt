use Rattle.tags.proofs.Begun.{space-ends, bracket-ends, known-begins}
use Rattle.tags.proofs.beginning.begin_at.Goals as goal

pub returns-in-Some : goal.returns-in-Some
returns-in-Some c = known-begins c.args.doc.now c.args.name c.in-Some.ensures space-ends

pub returns-in-Some-usual_short : goal.returns-in-Some-usual_short
returns-in-Some-usual_short c = known-begins c.args.doc.now c.args.name c.in-Some-usual_short.ensures bracket-ends
