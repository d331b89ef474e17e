use Rattle.printing.specs.internal.Standing.{Standing}
use Rattle.names.specs.Conversions.{prefix_of}
use Rattle.model.specs.Schema.{item_at, under, a_value}
use Rattle.model.specs.Search.{ahead}
use Rattle.model.specs.Schema.{is_under}
use Rattle.xmltoproto.specs.Source.{value_text}
use Rattle.xmltoproto.proofs.Looping.{Walking}
use Rattle.xmltoproto.proofs.enums.write_values.Given as goal

abbrev pub invariant-loop-i : goal.invariant-loop-i
invariant-loop-i l =
    record {
      walking : Walking (λ v. value_text l.name (item_at l.s v)) (under a_value l.e l.s) (ahead (is_under l.i-iterator.by.kind l.i-iterator.by.owner) l.i-iterator.from l.i-iterator.index.now) l.initial.out l.out;
      standing : Standing (prefix_of l.name) l.out.bytes.now l.stood l.out.at;
    }
