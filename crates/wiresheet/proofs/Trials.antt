-- The example of each kind is plain, and its sheet as lines.
use mathlib.Core.Path.{◌≡◌, refl}
use Rattle.texts.specs.Text.{ascii, same}
use Rattle.texts.specs.Trim.{is_blank, trimmed_front, trimmed_back, trimmed}
use Rattle.texts.specs.Lists.{each, all, Every, among}
use Rattle.classes.specs.Class.{is_upper, is_lower}
use Rattle.printing.specs.Decimal.{decimal, digits}
use Rattle.printing.specs.Repeated.{up_to}
use Rattle.classes.specs.Letters.{lowered, raised}
use Rattle.names.specs.Conversions.{camel_to_snake, cased, breaks_snake, camel_to_screaming_snake, cased_at, breaks_screaming, ends_in_ies, ends_in_s, singular, capitalized, singular_pascal}
use Rattle.charsets.specs.Charset.{is_punctuation, cleaned, compatible}
use Rattle.numbers.specs.Numbers.{is_digit}
use Rattle.model.specs.Schema.{positions_from, all_of, under, last, last_named}
use Rattle.xmltoproto.specs.Types.{form_of, built_in, is_char, chars, is_byte, is_raw, is_declared, meaning}
use Rattle.xmltoproto.specs.Composites.{is_printed, printed_composites}
use Rattle.wiresheet.specs.Plain.{is_letter, is_name_byte, is_identifier, is_dotted, is_package, is_digits, is_integer, Plain}
use Rattle.wiresheet.specs.Sheet.{kind_of, value_of, enum_of, member_of, ref_of, composite_of, field_of, group_of, message_of, sheet, shown, kind_shown, enum_shown, composite_shown, field_shown, group_shown, message_shown, sheet_lines}
use Rattle.xmltoproto.proofs.Trials.{full}

pub lines : sheet_lines (sheet full) ≡ ascii "schema\ta.b1\t1\t2\nenum\tSide\nvalue\tBUY_NOW\t-1\ncomposite\tBox\npart\ttext 5\ttag\npart\ttext 1 Latin\"1\n\told\npart\traw 3\tblob\npart\tnamed Side\twhich_side\nmessage\tHit\t3\nfield\tnamed Box\tbox\t4\nfield\tuint64\tf\t5\n"
unfolding is_printed printed_composites each is_char is_byte is_raw chars form_of built_in meaning is_declared last_named last positions_from all_of under same among decimal digits camel_to_snake cased breaks_snake camel_to_screaming_snake cased_at breaks_screaming ends_in_ies ends_in_s singular capitalized singular_pascal lowered raised is_upper is_lower up_to is_blank trimmed_front trimmed_back trimmed is_punctuation cleaned compatible kind_of value_of enum_of member_of ref_of composite_of field_of group_of message_of sheet shown kind_shown enum_shown composite_shown field_shown group_shown message_shown sheet_lines
lines = refl

-- every test that plainness asks computes to true
pub full-is-plain : Plain full
unfolding is_letter is_digit is_name_byte is_identifier is_dotted is_package is_digits is_integer all Every among same is_upper is_lower is_printed printed_composites positions_from all_of under meaning is_declared last_named last form_of built_in
full-is-plain =
    record {
      package_name = tt;
      enums = (record { name = tt; free = tt; values = (record { name = tt; value = tt }, tt) }, tt);
      free = (tt, (tt, tt));
      composites = (
        record {
          name = tt;
          members = (record { name = tt; primitive = tt }, (record { name = tt; primitive = tt }, (record { name = tt; primitive = tt }, tt)));
          refs = (record { name = tt; type = tt }, tt);
        },
        tt,
      );
      messages = (record { name = tt; fields = (record { name = tt; type = tt }, (record { name = tt; type = tt }, tt)); groups = tt }, tt);
    }
