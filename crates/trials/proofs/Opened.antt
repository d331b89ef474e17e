-- The definitions that computing a trial unfolds. Each name below stands for its list in an
-- `unfolding` line, so that a definition that moves or is renamed is changed here alone.
use Rattle.texts.specs.Text.{same, starts_with}
use Rattle.texts.specs.Scan.{is_ascii}
use Rattle.texts.specs.Lists.{each, any, among}
use Rattle.classes.specs.Class.{is_upper, is_lower, is_space, is_tag_name_end, is_attribute_name_end}
use Rattle.printing.specs.Decimal.{decimal, digits}
use Rattle.printing.specs.Repeated.{up_to}
use Rattle.printing.specs.Output.{finished}
use Rattle.classes.specs.Letters.{lowered, raised}
use Rattle.names.specs.Conversions.{camel_to_snake, cased, breaks_snake, camel_to_screaming_snake, cased_at, breaks_screaming, ends_in_ies, ends_in_s, singular, capitalized, singular_pascal}
use Rattle.entities.specs.Entities.{front, decoded_past}
use Rattle.tags.specs.Find.{find_in}
use Rattle.tags.specs.Names.{prefix_length, is_xmlns}
use Rattle.tags.specs.Attributes.{quoted_at, value_at, attribute_part_at, tag_part_at, with_part, tag_within, last_of, attribute_at}
use Rattle.saxlite.specs.Events.{text_at, past, past_end, close_at, open_by, open_at, events_at, events_within}
use Rattle.numbers.specs.Numbers.{is_digit, all_digits, value_from, bounded_from, digits_of, unsigned, number_of}
use Rattle.elements.specs.Elements.{other_element_of, element_of}
use Rattle.model.specs.Schema.{positions_from, all_of, under}
use Rattle.builder.specs.Builder.{added, open_schema, open_type, open_composite, open_message, opened, closed}
use Rattle.xmlschema.specs.Whole.{ending, built, answer_of}
use Rattle.xmltoproto.specs.Types.{form_of, is_char, is_byte, is_array}
use Rattle.xmltoproto.specs.Composites.{is_printed, printed_composites}
use Rattle.xmltoproto.specs.Source.{package_line, header, source}
use Rattle.xmltoproto.specs.Arrays.{first_from, refused_composite, array_refusal}
use Rattle.xmltoproto.specs.Generate.{generated}

-- the conversions of names
unfoldable pub on_names : Unit {0}
unfolding camel_to_snake cased breaks_snake camel_to_screaming_snake cased_at breaks_screaming up_to lowered raised is_upper is_lower singular_pascal capitalized singular ends_in_ies ends_in_s starts_with
on_names = tt

-- numbers
unfoldable pub on_numbers : Unit {0}
unfolding is_digit all_digits value_from bounded_from digits_of unsigned number_of
on_numbers = tt

-- the markup at a place of a document
unfoldable pub on_markup : Unit {0}
unfolding events_within events_at text_at open_at open_by close_at past_end past find_in tag_within with_part tag_part_at attribute_part_at value_at quoted_at prefix_length is_xmlns same starts_with is_space is_tag_name_end is_attribute_name_end
on_markup = tt

-- a whole document, taken into the model
unfoldable pub on_documents : Unit {0}
unfolding on_markup on_numbers answer_of built ending is_ascii attribute_at last_of front decoded_past other_element_of element_of added open_schema open_type open_composite open_message opened closed
on_documents = tt

-- the array refusals, and the source of a schema that prints no item
unfoldable pub on_schemas : Unit {0}
unfolding generated finished source header package_line each decimal digits array_refusal first_from refused_composite is_printed printed_composites any is_array is_char is_byte form_of positions_from all_of under same among
on_schemas = tt
