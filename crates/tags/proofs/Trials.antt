-- Look-ups in a small tag, computed from the definitions.
use Rattle.texts.specs.declared.Range.{Range}
use Rattle.std.proofs.Common.{Option, Some, None, ◌≡◌, refl, List, [], ◌∷◌, ℕ}
use Rattle.texts.specs.Text.{ascii, same, starts_with}
use Rattle.classes.specs.Class.{is_space, is_tag_name_end, is_attribute_name_end}
use Rattle.tags.specs.Names.{prefix_length, is_xmlns}
use Rattle.tags.specs.Attributes.{quoted_at, value_at, attribute_part_at, tag_part_at, with_part, tag_within, last_of, attribute_at}

-- of equal names the last counts, the prefix is dropped, and xmlns is dropped
pub tag : List ℕ
tag = ascii "<a x='1' p:x='22' xmlns:y='3' xmlns='4' z=''>"

pub found : List (Option Range)
found = attribute_at tag 2 (ascii "x") ∷ attribute_at tag 2 (ascii "y") ∷ attribute_at tag 2 (ascii "xmlns") ∷ attribute_at tag 2 (ascii "z") ∷ []

pub look-ups : found ≡ Some (record { from = 14; len = 2 }) ∷ None ∷ None ∷ Some (record { from = 43; len = 0 }) ∷ []
unfolding found tag attribute_at last_of tag_within with_part tag_part_at attribute_part_at value_at quoted_at prefix_length is_xmlns same starts_with is_space is_tag_name_end is_attribute_name_end
look-ups = refl
