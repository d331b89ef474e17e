-- Laws of opening an element, after a number was read or without one.
use Rattle.std.proofs.lemmas.Result.{err_from_is_err_and}
use Rattle.texts.specs.declared.Range.{Range}
use Rattle.std.proofs.Common.{Option, Some, None, Result, Ok, Err, IsErrAnd, ◌≡◌, refl, sym, ap, ◌∙◌, Bool, true, false, List, ℕ, arith, eq-eqb, ne_eqb, [], ◌-◌, eqb, leb, ◌++◌, ◌∷◌}
use denote.Ref.{Bor}
use Rattle.refusals.specs.declared.Refusal.{Refusal}
use Rattle.refusals.specs.declared.Refusal.TheVariants.{BadNumber, MisplacedField}
use Rattle.builder.specs.declared.work.Found.{Found}
use Rattle.tags.specs.Attributes.{attribute_at}
use Rattle.elements.specs.Keys.{Keys, field_keys, type_keys, enum_keys}
use Rattle.saxlite.specs.Event.{value_in}
use Rattle.model.specs.Schema.{Item, item_at, a_type, a_member, a_message, a_group, a_field, a_ref, a_composite, an_enum, a_value, Schema}
use Rattle.builder.specs.Builder.{Builder, Outcome, on, refused, added, open_type, open_message, open_group, open_field, now_message, now_group, and_then, plain_item, type_item, text_in, open_ref, open_composite, open_enum, open_value, Attributes, number_in, now_composite, now_enum, with_text, next_position, if_current, with_number, with_schema, with_items, field_in, field_under}
use Rattle.builder.specs.internal.Layout.{used_by, builder_in, parent_composite, room, After}
use Rattle.builder.specs.internal.Taking.{attributes_of, Added, NumberRead, number_or_refused, CanOpen, Finds, drafted, drafted_item}
use Rattle.numbers.specs.Numbers.{number_of}
use Rattle.builder.specs.Limits.{Limits}
use Rattle.builder.specs.declared.state.State.{State}
use Rattle.builder.specs.declared.take.Draft.{Draft}
use Rattle.builder.specs.declared.work.Tag.{Tag}
use Rattle.builder.specs.declared.work.Work.{Work}
use Rattle.builder.proofs.Adding.{after-of, after_turned, after_same, after-as, after-then, counted-items}
use Rattle.builder.proofs.Finding.{currently, message-now, group-now, number-said, typed, type-drafted, named-drafted, field-drafted, composite-now, enum-now, value-now, emptied, sound-emptied, enum-drafted}
use Rattle.texts.specs.Choice.{pick}

-- ---- an item added, and f after it, which changes nothing that it is added by

and-pick : (f : Builder → Builder) (t : Bool) (r : Refusal) (b : Builder) → pick t (refused r) (on (f b)) ≡ and_then f (pick t (refused r) (on b))
and-pick f true r b = refl
and-pick f false r b = refl

then-added : (l : Limits) (place : ℕ) (it : Item) (f : Builder → Builder) (b : Builder) → (f b).schema ≡ b.schema → ((x : Schema) → with_schema x (f b) ≡ f (with_schema x b)) → added l place it (f b) ≡ and_then f (added l place it b)
unfolding added
then-added l place it f b g h = rw (g, h (with_items (b.schema.items ++ (it ∷ [])) b.schema)) (and-pick f (leb l.items (next_position b)) _ _)

-- f makes the item that is added next current
current-added : (l : Limits) (place : ℕ) (it : Item) (f : Option ℕ → Builder → Builder) (w : Work) (s : State) → ((x : Option ℕ) → (f x (builder_in w s)).schema ≡ (builder_in w s).schema) → ((x : Option ℕ) (y : Schema) → with_schema y (f x (builder_in w s)) ≡ f x (with_schema y (builder_in w s)))
    → added l place it (f (Some s.usage.items) (builder_in w s)) ≡ and_then (f (Some (next_position (builder_in w s)))) (added l place it (builder_in w s))
current-added l place it f w s g h = rw (counted-items w s) (then-added l place it (f (Some s.usage.items)) (builder_in w s) (g _) (h _))

-- ---- each definition by its cases, of any builder

module _ (l : Limits) (place : ℕ) (a : Attributes) (b : Builder) where
  ref-by : (o : Option ℕ) → b.current.composite ≡ o → if_current o b (λ c. added l place (plain_item a_ref c (text_in a "name") (text_in a "type") 0) b) ≡ open_ref l place a b
  unfolding open_ref
  ref-by o e = rw e refl

  value-by : (o : Option ℕ) → b.current.enum ≡ o → if_current o (with_text b.collecting [] b) (λ c. and_then (with_text true []) (added l place (plain_item a_value c (text_in a "name") [] 0) b)) ≡ open_value l place a b
  unfolding open_value
  value-by o e = rw e refl

  type-by : {n : ℕ} {inside y : Bool} (o : Option ℕ) → number_in a "length" ≡ Some n → inside ≡ y → b.current.composite ≡ o → pick y (if_current o b (λ c. added l place (type_item a_member c a n) b)) (added l place (type_item a_type 0 a n) b) ≡ open_type l place inside a b
  unfolding open_type
  type-by o f i e = rw (f, i, e) refl

  module _ {n : ℕ} (f : number_in a "id" ≡ Some n) where
    message-by : and_then (now_message (Some (next_position b))) (added l place (plain_item a_message 0 (text_in a "name") [] n) b) ≡ open_message l place a b
    unfolding open_message
    message-by = rw f refl

    group-by : (o : Option ℕ) → b.current.message ≡ o → if_current o b (λ m. and_then (now_group (Some (next_position b))) (added l place (plain_item a_group m (text_in a "name") [] n) b)) ≡ open_group l place a b
    unfolding open_group
    group-by o e = rw (f, e) refl

    field-by : (o g : Option ℕ) → b.current.message ≡ o → b.current.group ≡ g → if_current o b (λ m. field_in l place a n m g b) ≡ open_field l place a b
    unfolding open_field
    field-by o g e y = rw (f, e, y) refl

-- ---- without a number

abbrev pub Gives : Outcome → Work → State → Tag → Work → Result State Refusal → Type 0
Gives o w s tag w' r = After o w s (room tag) w' r

of-item : (w : Work) (tag : Tag) (t : State) {x y : Item} → x ≡ y → added w.limits tag.place x (builder_in w t) ≡ added w.limits tag.place y (builder_in w t)
of-item w tag t e = ap (λ x. added w.limits tag.place x (builder_in w t)) e

module _ {w : Work} {s : State} {tag : Tag} where
  module _ (o : CanOpen field_keys w s tag) where
    pub ref-dropped : s.current.composite ≡ None → Gives (open_ref w.limits tag.place (attributes_of w tag) (builder_in w s)) w s tag w (Ok s)
    ref-dropped e = after_same (ref-by w.limits tag.place (attributes_of w tag) (builder_in w s) None e) o.room.intact

    pub value-lost : s.current.enumeration ≡ None → Gives (open_value w.limits tag.place (attributes_of w tag) (builder_in w s)) w s tag w (Ok (emptied s s.current))
    value-lost e =
        let z : s.usage.collected_to - s.usage.collected_to ≡ 0 = omega arith in
        after_turned (rw z (value-by w.limits tag.place (attributes_of w tag) (builder_in w s) None e)) (sound-emptied o.room.intact) (omega arith)

    module _ {f : Found} (ef : Finds tag f) {d : Draft} {w' : Work} {r : Result State Refusal} where
      pub ref-on : {c : ℕ} → s.current.composite ≡ Some c → d ≡ drafted a_ref c 0 f.name f.second → Added w tag s d w' r → Gives (open_ref w.limits tag.place (attributes_of w tag) (builder_in w s)) w s tag w' r
      ref-on e q p = after-as s (of-item w tag s (field-drafted o ef q) ∙ ref-by w.limits tag.place (attributes_of w tag) (builder_in w s) (Some _) e) refl (omega arith) p

      pub composite-on : d ≡ drafted a_composite 0 0 f.name None
          → Added w tag (currently s (composite-now s)) d w' r
          → Gives (open_composite w.limits tag.place (attributes_of w tag) (builder_in w s)) w s tag w' r
      unfolding open_composite
      composite-on q p = after-as s (of-item w tag (currently s (composite-now s)) (named-drafted o ef q) ∙ current-added w.limits tag.place _ now_composite w s (λ x. refl) (λ x y. refl)) refl (omega arith) p

      pub value_on : {c : ℕ} → s.current.enumeration ≡ Some c → d ≡ drafted a_value c 0 f.name None
          → Added w tag (emptied s (value-now s)) d w' r
          → Gives (open_value w.limits tag.place (attributes_of w tag) (builder_in w s)) w s tag w' r
      value_on e q p =
          let z : s.usage.collected_to - s.usage.collected_to ≡ 0 = omega arith in
          after-as s
          (of-item w tag (emptied s (value-now s)) (named-drafted o ef q) ∙ rw z (then-added w.limits tag.place _ (with_text true []) (builder_in w s) refl (λ x. refl) ∙ value-by w.limits tag.place (attributes_of w tag) (builder_in w s) (Some _) e))
          refl (omega arith) p

  pub enum-on : CanOpen enum_keys w s tag → {f : Found} → Finds tag f → {d : Draft} → d ≡ drafted an_enum 0 0 f.name f.second → {w' : Work} {r : Result State Refusal}
      → Added w tag (currently s (enum-now s)) d w' r
      → Gives (open_enum w.limits tag.place (attributes_of w tag) (builder_in w s)) w s tag w' r
  unfolding open_enum
  enum-on o ef q p = after-as s (of-item w tag (currently s (enum-now s)) (enum-drafted o ef q) ∙ current-added w.limits tag.place _ now_enum w s (λ x. refl) (λ x y. refl)) refl (omega arith) p

-- ---- a number

pub number-ok : (place : ℕ) (x : Option ℕ) {n : ℕ} → Ok n ≡ number_or_refused place x → x ≡ Some n
number-ok place (Some m) e = ap Some (ok-inj (sym e))
  where
    ok-inj : {m n : ℕ} → ◌≡◌ {A = Result ℕ Refusal} (Ok m) (Ok n) → m ≡ n
    ok-inj e = cc
number-ok place None e = absurd (let z : ◌≡◌ {A = ℕ} 0 1 = cc in omega arith)

pub number-err : (place : ℕ) (x : Option ℕ) {q : Refusal} → Err q ≡ number_or_refused place x → (x ≡ None) × (q ≡ BadNumber place)
number-err place None e = (refl, err-inj e)
  where
    err-inj : {p q : Refusal} → ◌≡◌ {A = Result ℕ Refusal} (Err p) (Err q) → p ≡ q
    err-inj e = cc
number-err place (Some m) e = absurd (let z : ◌≡◌ {A = ℕ} 0 1 = cc in omega arith)

-- the first value that was noted of a tag, as a number
module _ {k : Keys} {w : Work} {s : State} {tag : Tag} (o : CanOpen k w s tag) {f : Found} (ef : Finds tag f) {n : ℕ} {w₁ : Work} {x : Result ℕ Refusal} (m : NumberRead tag.place n f.number w s w₁ x) where
  pub is_number : {v : ℕ} → x ≡ Ok v → number_of (value_in w.doc.now (attribute_at w.doc.now tag.attributes k.number)) ≡ Some v
  is_number e = ap (λ (y : Option Range). number_of (value_in w.doc.now y)) (sym (number-said o ef)) ∙ number-ok tag.place _ (sym e ∙ m.is)

  pub no-number : {q : Refusal} → x ≡ Err q → number_of (value_in w.doc.now (attribute_at w.doc.now tag.attributes k.number)) ≡ None
  no-number e = ap (λ (y : Option Range). number_of (value_in w.doc.now y)) (sym (number-said o ef)) ∙ (number-err tag.place _ (sym e ∙ m.is)).0

  -- 32, where it is none
  pub refused-by : {q : Refusal} → x ≡ Err q → {r : Result State Refusal} → IsErrAnd r (λ y. y ≡ q) → (g : ℕ → Outcome) → After (with_number tag.place (number_of (value_in w.doc.now (attribute_at w.doc.now tag.attributes k.number))) g) w s (room tag) w₁ r
  refused-by e {r} h g =
      let p = err_from_is_err_and r h in
      let z : r ≡ Err (BadNumber tag.place) = p.1 ∙ ap (λ y. Err y) (p.2 ∙ (number-err tag.place _ (sym e ∙ m.is)).1) in
      rw (z, no-number e) (after-of refl tt tt m.same)

  -- an item added after it
  readded : (g : Builder → Builder) (d : Draft) {it : Item} → drafted_item d w.doc.now ≡ it → added w₁.limits tag.place (drafted_item d w₁.doc.now) (g (builder_in w₁ s)) ≡ added w.limits tag.place it (g (builder_in w s))
  readded g d e =
      ap (λ (y : Limits). added y tag.place (drafted_item d w₁.doc.now) (g (builder_in w₁ s))) m.same.limits
      ∙ ap (λ (y : Bor (List ℕ)). added w.limits tag.place (drafted_item d y.now) (g (builder_in w₁ s))) m.same.doc
      ∙ ap (λ (y : Builder). added w.limits tag.place (drafted_item d w.doc.now) (g y)) m.builder
      ∙ ap (λ (y : Item). added w.limits tag.place y (g (builder_in w s))) e

  read-added : (g : Builder → Builder) (d : Draft) {it : Item} {t : State} {p : Outcome} {w' : Work} {r : Result State Refusal} → drafted_item d w.doc.now ≡ it → added w.limits tag.place it (g (builder_in w s)) ≡ p → used_by t ≡ used_by s
      → After (added w₁.limits tag.place (drafted_item d w₁.doc.now) (g (builder_in w₁ s))) w₁ t (room tag) w' r → After p w s (room tag) w' r
  read-added g d e f u a = after-then m.same (after-as s (readded g d e ∙ f) u (omega arith) a)

  -- nothing added after it
  unadded : {o : Outcome} → on (builder_in w s) ≡ o → After o w s (room tag) w₁ (Ok s)
  unadded e = after-of (ap on m.builder ∙ e) m.room.intact (omega arith) m.same

module _ {w : Work} {s : State} {tag : Tag} (o : CanOpen field_keys w s tag) {f : Found} (ef : Finds tag f) {n : ℕ} {w₁ : Work} {x : Result ℕ Refusal} (m : NumberRead tag.place n f.number w s w₁ x) {v : ℕ} (e : x ≡ Ok v) where
  abbrev Groups : Work → Result State Refusal → Type 0
  Groups w' r = Gives (open_group w.limits tag.place (attributes_of w tag) (builder_in w s)) w s tag w' r

  abbrev Fields : Work → Result State Refusal → Type 0
  Fields w' r = Gives (open_field w.limits tag.place (attributes_of w tag) (builder_in w s)) w s tag w' r

  by-message : (c g : Option ℕ) → s.current.message ≡ c → s.current.group ≡ g → if_current c (builder_in w s) (λ i. field_in w.limits tag.place (attributes_of w tag) v i g (builder_in w s)) ≡ open_field w.limits tag.place (attributes_of w tag) (builder_in w s)
  by-message c g z h = field-by w.limits tag.place (attributes_of w tag) (builder_in w s) (is_number o ef m e) c g z h

  pub group-dropped : s.current.message ≡ None → Groups w₁ (Ok s)
  group-dropped z = unadded o ef m (group-by w.limits tag.place (attributes_of w tag) (builder_in w s) (is_number o ef m e) None z)

  pub field-dropped : s.current.message ≡ None → Fields w₁ (Ok s)
  field-dropped z = unadded o ef m (by-message None _ z refl)

  -- y is the owner of the current group
  module _ {c g : ℕ} (z : s.current.message ≡ Some c) (h : s.current.group ≡ Some g) {y : ℕ} (j : y ≡ (item_at (builder_in w₁ s).schema g).owner) where
    owner : y ≡ (item_at (builder_in w s).schema g).owner
    owner = j ∙ ap (λ (b : Builder). (item_at b.schema g).owner) m.builder

    -- by whether it is the current message
    abbrev chosen : Bool → Outcome
    chosen u = pick u (field_under w.limits tag.place (attributes_of w tag) v g (builder_in w s)) (refused (MisplacedField tag.place))

    pub field-misplaced : (y ≡ c → ⊥) → Fields w₁ (Err (MisplacedField tag.place))
    field-misplaced k =
        let t : eqb (item_at (builder_in w s).schema g).owner c ≡ false = rw (← owner) (ne_eqb y c k) in
        after-of (sym (ap chosen t) ∙ by-message (Some c) (Some g) z h) tt tt m.same

    pub field-group : y ≡ c → {d : Draft} → d ≡ drafted a_field g v f.name f.second → {w' : Work} {r : Result State Refusal} → Added w₁ tag s d w' r → Fields w' r
    field-group k {d} q p =
        let t : eqb (item_at (builder_in w s).schema g).owner c ≡ true = rw (← owner) (eq-eqb y c k) in
        read-added o ef m (λ b. b) d (field-drafted o ef q) (sym (ap chosen t) ∙ by-message (Some c) (Some g) z h) refl p

  module _ {d : Draft} {w' : Work} {r : Result State Refusal} where
    pub message-on : d ≡ drafted a_message 0 v f.name None → Added w₁ tag (currently s (message-now s)) d w' r → Gives (open_message w.limits tag.place (attributes_of w tag) (builder_in w s)) w s tag w' r
    message-on q p =
        read-added o ef m (now_message (Some s.usage.items)) d (named-drafted o ef q)
        (current-added w.limits tag.place _ now_message w s (λ x. refl) (λ x y. refl) ∙ message-by w.limits tag.place (attributes_of w tag) (builder_in w s) (is_number o ef m e))
        refl p

    pub group-on : {c : ℕ} → s.current.message ≡ Some c → d ≡ drafted a_group c v f.name None → Added w₁ tag (currently s (group-now s)) d w' r → Groups w' r
    group-on z q p =
        read-added o ef m (now_group (Some s.usage.items)) d (named-drafted o ef q)
        (current-added w.limits tag.place _ now_group w s (λ x. refl) (λ x y. refl) ∙ group-by w.limits tag.place (attributes_of w tag) (builder_in w s) (is_number o ef m e) (Some _) z)
        refl p

    pub field-message : {c : ℕ} → s.current.message ≡ Some c → s.current.group ≡ None → d ≡ drafted a_field c v f.name f.second → Added w₁ tag s d w' r → Fields w' r
    field-message z h q p = read-added o ef m (λ b. b) d (field-drafted o ef q) (by-message (Some _) None z h) refl p

module _ {w : Work} {s : State} {tag : Tag} (o : CanOpen type_keys w s tag) {f : Found} (ef : Finds tag f) {n : ℕ} {w₁ : Work} {x : Result ℕ Refusal} (m : NumberRead tag.place n f.number w s w₁ x) {v : ℕ} (e : x ≡ Ok v) {y : Bool} (i : y ≡ parent_composite (builder_in w₁ s)) where
  abbrev Types : Work → Result State Refusal → Type 0
  Types w' r = Gives (open_type w.limits tag.place (parent_composite (builder_in w s)) (attributes_of w tag) (builder_in w s)) w s tag w' r

  by-parent : {t : Bool} (c : Option ℕ) → y ≡ t → s.current.composite ≡ c
      → pick t (if_current c (builder_in w s) (λ g. added w.limits tag.place (type_item a_member g (attributes_of w tag) v) (builder_in w s))) (added w.limits tag.place (type_item a_type 0 (attributes_of w tag) v) (builder_in w s))
      ≡ open_type w.limits tag.place (parent_composite (builder_in w s)) (attributes_of w tag) (builder_in w s)
  by-parent c t z = type-by w.limits tag.place (attributes_of w tag) (builder_in w s) c (is_number o ef m e) (sym (i ∙ ap parent_composite m.builder) ∙ t) z

  pub member-dropped : y ≡ true → s.current.composite ≡ None → Types w₁ (Ok s)
  member-dropped t z = unadded o ef m (by-parent None t z)

  pub member-on : y ≡ true → {c : ℕ} → s.current.composite ≡ Some c → {w' : Work} {r : Result State Refusal} → Added w₁ tag s (typed f a_member c v) w' r → Types w' r
  member-on t z p = read-added o ef m (λ b. b) _ (type-drafted o ef _ _ _) (by-parent (Some _) t z) refl p

  pub type-on : y ≡ false → {w' : Work} {r : Result State Refusal} → Added w₁ tag s (typed f a_type 0 v) w' r → Types w' r
  type-on t p = read-added o ef m (λ b. b) _ (type-drafted o ef _ _ _) (by-parent _ t refl) refl p
