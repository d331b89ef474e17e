-- The events of small documents, computed from the definitions.
use Rattle.std.proofs.Common.{◌≡◌, refl, List, [], ◌∷◌}
use Rattle.texts.specs.Text.{ascii, same, starts_with}
use Rattle.entities.specs.Entities.{front, decoded_past}
use Rattle.classes.specs.Class.{is_space, is_tag_name_end, is_attribute_name_end}
use Rattle.refusals.specs.declared.Refusal.TheVariants.{OpenComment, NoTagName, NoAttributeName, NoEquals, OpenValue}
use Rattle.tags.specs.Find.{find_in}
use Rattle.tags.specs.Names.{prefix_length, is_xmlns}
use Rattle.tags.specs.Attributes.{quoted_at, value_at, attribute_part_at, tag_part_at, with_part, tag_within}
use Rattle.saxlite.specs.Event.{Events, text, opens, closes, next, done, broken, attributes_in}
use Rattle.saxlite.specs.Events.{text_at, past, past_end, close_at, open_by, open_at, events_at, events_within, events}

pub trials : List Events
trials =
    events (ascii "</>")
    ∷ events (ascii "<!-->")
    ∷ events (ascii "<")
    ∷ events (ascii "<a b>")
    ∷ events (ascii "<a/ >")
    ∷ events (ascii "<:>")
    ∷ events (ascii "<a b = 'c")
    ∷ events (ascii "x:y</a>")
    ∷ events (ascii "<!----><?a?><!b></p:a >")
    ∷ events (ascii "<p:a b='1'c=\"2\" />")
    ∷ []

pub told :
    trials ≡
    next 0 (closes []) done
    ∷ broken (OpenComment 0)
    ∷ broken (NoTagName 1 0)
    ∷ broken (NoEquals 4 0)
    ∷ broken (NoAttributeName 2 0)
    ∷ next 0 (opens [] (attributes_in (ascii "<:>") 2)) done
    ∷ broken (OpenValue 8 0)
    ∷ next 0 (text (ascii "x:y")) (next 3 (closes (ascii "a")) done)
    ∷ next 16 (closes (ascii "a")) done
    ∷ next 0 (opens (ascii "a") (attributes_in (ascii "<p:a b='1'c=\"2\" />") 4)) (next 0 (closes (ascii "a")) done)
    ∷ []
unfolding trials decoded_past front events_within events_at open_at open_by close_at past_end past text_at find_in tag_within with_part tag_part_at attribute_part_at value_at quoted_at prefix_length is_xmlns same starts_with is_space is_tag_name_end is_attribute_name_end
told = refl
