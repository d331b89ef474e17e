-- Laws of the elements' names: a, b, .. are what the comparisons say, in their order.
use Rattle.std.proofs.Common.{◌≡◌, Bool, true, false, List, ℕ}
use Rattle.texts.specs.Text.{ascii, same}
use Rattle.elements.specs.Elements.{element_of, other_element_of}
use Rattle.elements.specs.declared.Element.{Element}
use Rattle.elements.specs.declared.Element.TheVariants.{MessageSchema, «Type», Ref, Composite, Enum, ValidValue, Message, Group, Field, Other}

module _ (name : List ℕ) {a : Bool} (ea : a ≡ same name (ascii "messageSchema")) where
  pub is-schema : a ≡ true → MessageSchema ≡ element_of name
  unfolding element_of
  is-schema t = rw (← ea, t)

  module _ (fa : a ≡ false) {b : Bool} (eb : b ≡ same name (ascii "type")) where
    pub is-type : b ≡ true → «Type» ≡ element_of name
    unfolding element_of
    is-type t = rw (← ea, fa, ← eb, t)

    module _ (fb : b ≡ false) {c : Bool} (ec : c ≡ same name (ascii "ref")) where
      pub is-ref : c ≡ true → Ref ≡ element_of name
      unfolding element_of
      is-ref t = rw (← ea, fa, ← eb, fb, ← ec, t)

      module _ (fc : c ≡ false) {d : Bool} (ed : d ≡ same name (ascii "composite")) where
        pub is-composite : d ≡ true → Composite ≡ element_of name
        unfolding element_of
        is-composite t = rw (← ea, fa, ← eb, fb, ← ec, fc, ← ed, t)

        module _ (fd : d ≡ false) {e : Bool} (ee : e ≡ same name (ascii "enum")) where
          pub is-enum : e ≡ true → Enum ≡ element_of name
          unfolding element_of
          is-enum t = rw (← ea, fa, ← eb, fb, ← ec, fc, ← ed, fd, ← ee, t)

          pub is_later : e ≡ false → {r : Element} → r ≡ other_element_of name → r ≡ element_of name
          unfolding element_of
          is_later t er = rw (← ea, fa, ← eb, fb, ← ec, fc, ← ed, fd, ← ee, t) er

module _ (name : List ℕ) {a : Bool} (ea : a ≡ same name (ascii "validValue")) where
  pub is-value : a ≡ true → ValidValue ≡ other_element_of name
  unfolding other_element_of
  is-value t = rw (← ea, t)

  module _ (fa : a ≡ false) {b : Bool} (eb : b ≡ same name (ascii "message")) where
    pub is-message : b ≡ true → Message ≡ other_element_of name
    unfolding other_element_of
    is-message t = rw (← ea, fa, ← eb, t)

    module _ (fb : b ≡ false) {c : Bool} (ec : c ≡ same name (ascii "group")) where
      pub is-group : c ≡ true → Group ≡ other_element_of name
      unfolding other_element_of
      is-group t = rw (← ea, fa, ← eb, fb, ← ec, t)

      module _ (fc : c ≡ false) {d : Bool} (ed : d ≡ same name (ascii "field")) where
        pub is_field : d ≡ true → Field ≡ other_element_of name
        unfolding other_element_of
        is_field t = rw (← ea, fa, ← eb, fb, ← ec, fc, ← ed, t)

        pub is-other : d ≡ false → Other ≡ other_element_of name
        unfolding other_element_of
        is-other t = rw (← ea, fa, ← eb, fb, ← ec, fc, ← ed, t)
