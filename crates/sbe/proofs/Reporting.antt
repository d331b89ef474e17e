-- The law of reporting an answer, with the output after it.
use Rattle.std.proofs.Common.{◌≡◌, List, ℕ, rules}
use Rattle.refusals.specs.Figures.{Answer}
use Rattle.refusals.specs.Reported.{Reports}
use Rattle.printing.specs.Output.{output_after}
use Rattle.sbe.specs.Report.{TextReports}

pub reported : {a answer : Answer} {text out out' : List ℕ} {x y z w : ℕ} → a ≡ answer → out' ≡ output_after a text out → Reports a x y z w → TextReports answer text out out' x y z w
reported e p q = record { figures = rw e at q; output = rw e at p }

pub ruleset laws = (reported, rules)
