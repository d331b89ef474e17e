-- Laws of the sheet as lines.
use Rattle.std.proofs.Common.{◌≡◌, refl, sym, List, ◌++◌, map, ℕ, ◌+◌, length}
use Rattle.texts.specs.Lists.{each}
use Rattle.printing.proofs.Writing.{writing}
use Rattle.xmltoproto.proofs.Typing.{meanings}
use Rattle.wiresheet.specs.Sheet.{value_of, enum_of, member_of, ref_of, composite_of, field_of, group_of, message_of, shown, enum_shown, composite_shown, field_shown, group_shown, message_shown}
use Rattle.wiresheet.specs.internal.SheetLines.{value_shown, part_shown, group_line, schema_line}
use Rattle.wiresheet.proofs.Splitting.{each-numbered}
use Rattle.wiresheet.proofs.Rendering.{each_map, numbered-append}

pub each-mapped : {A B : Type 0} (f : B → List ℕ) (g : A → B) (l : List A) → each f (map g l) ≡ each (λ x. f (g x)) l
each-mapped f g l = sym (each_map (λ x. f (g x)) f g (λ _. refl) l)

pub each-joined : {A : Type 0} (f : A → List ℕ) (k l : List A) → each f (k ++ l) ≡ each f k ++ each f l
each-joined f k l = rw (each-numbered f 0 (k ++ l), numbered-append (λ _. f) 0 k l, each-numbered f 0 k, each-numbered f (0 + length k) l)

pub ruleset lines = (each-mapped, each-joined, meanings, writing)

-- the definitions that a line is made of, under one name
unfoldable pub on_lines : Unit {0}
unfolding value_of enum_of member_of ref_of composite_of field_of group_of message_of shown enum_shown composite_shown field_shown group_shown message_shown value_shown part_shown group_line schema_line
on_lines = tt
