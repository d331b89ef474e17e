use Rattle.std.proofs.Common.{◌≡◌, drop}
use Rattle.texts.specs.Lists.{among}
use Rattle.texts.proofs.Among.{texts}
use Rattle.xmltoproto.proofs.types.is_among.Given as goal

abbrev pub invariant-loop-text : goal.invariant-loop-text
invariant-loop-text l = among l.fn.s (texts (drop l.text-index l.texts)) ≡ among l.fn.s (texts l.texts)
