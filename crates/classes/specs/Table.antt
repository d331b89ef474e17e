-- Rules: Markup. What a class number says of its byte. Of it crates above cite `is_name_stop`.
use Rattle.std.specs.Prelude.{◌≡◌, Bool, not, ℕ, eqb}
use Rattle.std.specs.Int.Bits.{bit_and}
use Rattle.texts.specs.Choice.{◌or◌}
use Rattle.classes.specs.Class.{is_space, is_tag_name_end, is_attribute_name_end, is_upper, is_lower}

-- what ends a raw tag name or its prefix: a tag-name end or ':'
unfoldable pub is_name_stop : ℕ → Bool
is_name_stop b = is_tag_name_end b or eqb b 58

-- k is the class number of the byte b: each class by a comparison, or by a bit
pub record ClassOf (b k : ℕ) : Type 0 where
  pub space : eqb k 15 ≡ is_space b
  pub tag_name_end : not (eqb (bit_and k 4) 0) ≡ is_tag_name_end b
  pub name_stop : not (eqb (bit_and k 2) 0) ≡ is_name_stop b
  pub attribute_name_end : not (eqb (bit_and k 1) 0) ≡ is_attribute_name_end b
  pub upper : eqb k 16 ≡ is_upper b
  pub lower : eqb k 32 ≡ is_lower b
