-- A sheet with the names and kinds of a plain schema is determined by its rendering.
use Rattle.std.proofs.Common.{◌≡◌, refl, ap, List, [], ◌∷◌, ◌++◌, append_assoc, ℕ, arith}
use mathlib.Core.List.{head-eq_of_cons-eq}
use Rattle.texts.specs.Text.{ascii, same}
use Rattle.texts.specs.Lists.{each, numbered, all, Every, among}
use Rattle.names.specs.Conversions.{prefix_of}
use Rattle.numbers.specs.Numbers.{is_digit}
use Rattle.xmltoproto.specs.Source.{package_line}
use Rattle.wiresheet.specs.Sheet.{Value, Enum, Part, Composite, Field, Group, Message, Sheet}
use Rattle.wiresheet.proofs.Splitting.{Splits, done, lit, gives, flip, clash, apart, token, counted, listed, ◌▹◌}
use Rattle.wiresheet.proofs.Numbers.{number}
use Rattle.wiresheet.proofs.Tokens.{but, Free}
use Rattle.wiresheet.proofs.Rendering.{value_line, enum_block, part_line, composite_block, field_line, group_block, message_block, render}
use Rattle.wiresheet.proofs.Lines.{OkKind, line-unique, line-indented, line-opens}

-- ---- names that end where they should, and kinds

pub record OkValue (v : Value) : Type 0 where
  pub name : Free 32 v.name
  pub value : Free 59 v.value

pub record OkEnum (e : Enum) : Type 0 where
  pub name : Free 32 e.name
  pub values : Every OkValue e.values

pub record OkPart (p : Part) : Type 0 where
  pub kind : OkKind p.kind
  pub name : Free 32 p.name

pub record OkComposite (c : Composite) : Type 0 where
  pub name : Free 32 c.name
  pub parts : Every OkPart c.parts

pub record OkField (f : Field) : Type 0 where
  pub kind : OkKind f.kind
  pub name : Free 32 f.name

pub record OkGroup (g : Group) : Type 0 where
  pub name : Free 32 g.name
  pub singular : Free 32 g.singular
  pub fields : Every OkField g.fields

pub record OkMessage (m : Message) : Type 0 where
  pub name : Free 32 m.name
  pub fields : Every OkField m.fields
  pub groups : Every OkGroup m.groups

pub record OkSheet (s : Sheet) : Type 0 where
  pub package_name : Free 59 s.package_name
  pub enums : Every OkEnum s.enums
  pub composites : Every OkComposite s.composites
  pub messages : Every OkMessage s.messages

-- ---- enums

value-unique : (enum : List ℕ) (a b : Value) → OkValue a → OkValue b → Splits (value_line enum a) (value_line enum b) (a ≡ b)
value-unique enum a b ha hb =
    lit (ascii "  ") (lit (prefix_of enum) (token (but 32) a.name b.name ha.name hb.name tt tt λ p.
    lit (ascii " = ") (token (but 59) a.value b.value ha.value hb.value tt tt λ q.
    done (ascii ";\n") λ i. record { name = p i; value = q i })))

values-unique : (n n' : List ℕ) → n ≡ n' → (s t : List Value) → Every OkValue s → Every OkValue t → Splits (each (value_line n) s ▹ ascii "}\n\n") (each (value_line n') t ▹ ascii "}\n\n") (s ≡ t)
values-unique n n' e s t hs ht =
    rw (← e) (listed (value_line n) OkValue (value-unique n) s t hs ht (λ _ _. apart tt) (λ _ _. apart tt) λ q. done (ascii "}\n\n") q)

enum-unique : (a b : Enum) → OkEnum a → OkEnum b → Splits (enum_block a) (enum_block b) (a ≡ b)
enum-unique a b ha hb =
    lit (ascii "enum ") (token (but 32) a.name b.name ha.name hb.name tt tt λ p.
    lit (ascii " {\n") (gives (values-unique a.name b.name p a.values b.values ha.values hb.values) λ q i.
    record { name = p i; values = q i }))

-- ---- composites

part-unique : (n : ℕ) (a b : Part) → OkPart a → OkPart b → Splits (part_line n a) (part_line n b) (a ≡ b)
part-unique n a b ha hb =
    gives (line-unique (ascii "  ") a.kind b.kind a.name b.name n n ha.kind hb.kind ha.name hb.name) λ r i.
    record { kind = r.kind i; name = r.name i }

composite-unique : (a b : Composite) → OkComposite a → OkComposite b → Splits (composite_block a) (composite_block b) (a ≡ b)
composite-unique a b ha hb =
    lit (ascii "message ") (token (but 32) a.name b.name ha.name hb.name tt tt λ p.
    lit (ascii " {\n") (counted part_line OkPart part-unique 1 a.parts b.parts ha.parts hb.parts ends ends λ q.
    done (ascii "}\n\n") λ i. record { name = p i; parts = q i }))
  where
    ends : (n : ℕ) (a : Part) → OkPart a → Splits (part_line n a) (ascii "}\n\n") ⊥
    ends n a h = line-indented (ascii "  ") a.kind a.name n (λ w. apart tt)

-- ---- messages

field-unique : (indent : List ℕ) (a b : Field) → OkField a → OkField b → Splits (field_line indent a) (field_line indent b) (a ≡ b)
field-unique indent a b ha hb =
    gives (line-unique indent a.kind b.kind a.name b.name a.id b.id ha.kind hb.kind ha.name hb.name) λ r i.
    record { kind = r.kind i; name = r.name i; id = r.number i }

group-unique : (a b : Group) → OkGroup a → OkGroup b → Splits (group_block a) (group_block b) (a ≡ b)
unfolding is_digit
group-unique a b ha hb =
    lit (ascii "  message ") (token (but 32) a.singular b.singular ha.singular hb.singular tt tt λ p.
    lit (ascii " {\n") (listed (field_line (ascii "    ")) OkField (field-unique (ascii "    ")) a.fields b.fields ha.fields hb.fields ends ends λ q.
    lit (ascii "  }\n  repeated ") (token (but 32) a.singular b.singular ha.singular hb.singular tt tt λ _.
    lit (ascii " ") (token (but 32) a.name b.name ha.name hb.name tt tt λ r.
    lit (ascii " = ") (number a.id b.id tt tt λ t.
    done (ascii ";\n") λ i. record { name = r i; singular = p i; id = t i; fields = q i })))))
  where
    ends : {w : List ℕ} (f : Field) → OkField f → Splits (field_line (ascii "    ") f) (ascii "  }\n" ▹ w) ⊥
    ends f h = line-indented (ascii "    ") f.kind f.name f.id (λ w. apart tt)

-- a message's fields end where its groups begin, or at its own end
field-ends : (l : List Group) (f : Field) → OkField f → Splits (field_line (ascii "  ") f) (each group_block l ▹ ascii "}\n\n") ⊥
unfolding each all among same
field-ends [] f h = line-indented (ascii "  ") f.kind f.name f.id (λ w. apart tt)
field-ends (g ∷ l) f h = flip (clash (ascii "}\n\n") (clash (each group_block l) (flip (no-group g))))
  where
    no-group : (g : Group) → Splits (field_line (ascii "  ") f) (group_block g) ⊥
    no-group g = line-opens (ascii "  ") f.kind f.name f.id (ascii "message") _ h.kind tt tt (λ e. let q = head-eq_of_cons-eq e in omega arith)

message-unique : (a b : Message) → OkMessage a → OkMessage b → Splits (message_block a) (message_block b) (a ≡ b)
unfolding is_digit
message-unique a b ha hb =
    lit (ascii "message ") (token (but 32) a.name b.name ha.name hb.name tt tt λ p.
    lit (ascii " {\n  option (sbe.template_id) = ") (number a.id b.id tt tt λ q.
    lit (ascii ";\n") (listed (field_line (ascii "  ")) OkField (field-unique (ascii "  ")) a.fields b.fields ha.fields hb.fields (field-ends a.groups) (field-ends b.groups) λ r.
    listed group_block OkGroup group-unique a.groups b.groups ha.groups hb.groups (λ _ _. apart tt) (λ _ _. apart tt) λ t.
    done (ascii "}\n\n") λ i. record { name = p i; id = q i; fields = r i; groups = t i })))

-- ---- the whole; a byte that begins no block stands for the end

abbrev end : List ℕ
end = 0 ∷ []

no-message : (c : Composite) (m : Message) → OkComposite c → OkMessage m → Splits (composite_block c) (message_block m) ⊥
unfolding numbered Every all among same
no-message c m hc hm =
    lit (ascii "message ") (token (but 32) c.name m.name hc.name hm.name tt tt λ _. lit (ascii " {\n") (go c.parts hc.parts))
  where
    go : {w : List ℕ} (l : List Part) → Every OkPart l → Splits (numbered part_line 1 l ▹ ascii "}\n\n") (ascii "  option (sbe.template_id) = " ▹ w) ⊥
    go [] h = apart tt
    go (p ∷ l) h =
        clash (ascii "}\n\n") (clash (numbered part_line 2 l)
        (line-opens (ascii "  ") p.kind p.name 1 (ascii "option") _ h.0.kind tt tt (λ e. let q = head-eq_of_cons-eq e in omega arith)))

composite-ends : (l : List Message) → Every OkMessage l → (c : Composite) → OkComposite c → Splits (composite_block c) (each message_block l ▹ end) ⊥
unfolding each Every
composite-ends [] hl c hc = apart tt
composite-ends (m ∷ l) hl c hc = flip (clash end (clash (each message_block l) (flip (no-message c m hc hl.0))))

enum-ends : (cs : List Composite) (ms : List Message) (e : Enum) → OkEnum e → Splits (enum_block e) (each composite_block cs ▹ each message_block ms ▹ end) ⊥
unfolding each
enum-ends [] [] e h = apart tt
enum-ends [] (m ∷ ms) e h = apart tt
enum-ends (c ∷ cs) [] e h = apart tt
enum-ends (c ∷ cs) (m ∷ ms) e h = apart tt

package-unique : {u v : List ℕ} {G : Type 0} (p q : List ℕ) → Free 59 p → Free 59 q → (p ≡ q → Splits (ascii "import " ▹ u) (ascii "import " ▹ v) G) → Splits (package_line p ▹ ascii "import " ▹ u) (package_line q ▹ ascii "import " ▹ v) G
unfolding package_line
package-unique [] [] hp hq k = k refl
package-unique [] (b ∷ q) hp hq k = apart tt
package-unique (a ∷ p) [] hp hq k = apart tt
package-unique (a ∷ p) (b ∷ q) hp hq k =
    simp append_assoc (lit (ascii "package ") (token (but 59) (a ∷ p) (b ∷ q) hp hq tt tt λ e. lit (ascii ";\n\n") (k e)))

sheet-unique : (a b : Sheet) → OkSheet a → OkSheet b → Splits (render a ++ end) (render b ++ end) (a ≡ b)
unfolding is_digit
sheet-unique a b ha hb =
    simp append_assoc (lit (ascii "syntax = \"proto3\";\n\n") (package-unique a.package_name b.package_name ha.package_name hb.package_name λ p.
    lit (ascii "import \"sbe/annotations.proto\";\n\noption (sbe.schema_id) = ") (number a.id b.id tt tt λ q.
    lit (ascii ";\noption (sbe.version) = ") (number a.version b.version tt tt λ r.
    lit (ascii ";\n\n") (listed enum_block OkEnum enum-unique a.enums b.enums ha.enums hb.enums (enum-ends a.composites a.messages) (enum-ends b.composites b.messages) λ t.
    listed composite_block OkComposite composite-unique a.composites b.composites ha.composites hb.composites (composite-ends a.messages ha.messages) (composite-ends b.messages hb.messages) λ u.
    listed message_block OkMessage message-unique a.messages b.messages ha.messages hb.messages (λ _ _. apart tt) (λ _ _. apart tt) λ v.
    done end λ i. record { package_name = p i; id = q i; version = r i; enums = t i; composites = u i; messages = v i })))))

pub unique : (a b : Sheet) → OkSheet a → OkSheet b → render a ≡ render b → a ≡ b
unique a b ha hb e = ((sheet-unique a b ha hb).split [] [] (ap (λ t. (t ++ end) ++ []) e)).0
