-- Rules: The builder. The elements that it knows, by name.
use Rattle.std.specs.Prelude.{List, ℕ}
use Rattle.texts.specs.Choice.{pick}
use Rattle.texts.specs.Text.{ascii, same}
use Rattle.elements.specs.declared.Element.{Element}
use Rattle.elements.specs.declared.Element.TheVariants.{MessageSchema, «Type», Ref, Composite, Enum, ValidValue, Message, Group, Field, Other}

-- the last four of them; every other name is Other
unfoldable pub other_element_of : List ℕ → Element
other_element_of name =
    pick (same name (ascii "validValue")) ValidValue
    (pick (same name (ascii "message")) Message
    (pick (same name (ascii "group")) Group
    (pick (same name (ascii "field")) Field Other)))

-- the element of a name
unfoldable pub element_of : List ℕ → Element
element_of name =
    pick (same name (ascii "messageSchema")) MessageSchema
    (pick (same name (ascii "type")) «Type»
    (pick (same name (ascii "ref")) Ref
    (pick (same name (ascii "composite")) Composite
    (pick (same name (ascii "enum")) Enum
    (other_element_of name)))))
