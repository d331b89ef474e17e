use native.Mathlib.Omega.{arith}
use Rattle.tags.proofs.Declaring.{xmlns-colon}
use Rattle.tags.proofs.scan.is_xmlns_at.Goals as goal

pub returns-then-stands_short : goal.returns-then-stands_short
returns-then-stands_short c =
    xmlns-colon c.args.doc.now c.args.raw c.args.n c.stands_short.ensures c.if-stands_short.true (omega arith) c.if-n-eq5.false (omega arith)
