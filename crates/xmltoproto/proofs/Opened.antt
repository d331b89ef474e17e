-- The definitions that the functions of a file are proved by, under one name each.
use Rattle.xmltoproto.specs.Types.{form_of, built_in, is_char, chars, is_byte, is_raw, is_array, as_named, of_length, narrow, as_primitive, proto_of}
use Rattle.xmltoproto.specs.Arrays.{refused_composite, holds_array, refused_message, array_refusal}

unfoldable pub on_types : Unit {0}
unfolding form_of built_in is_char chars is_byte is_raw is_array as_named of_length narrow as_primitive proto_of
on_types = tt

unfoldable pub on_arrays : Unit {0}
unfolding on_types refused_composite holds_array refused_message array_refusal
on_arrays = tt
