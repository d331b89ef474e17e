-- Laws: a validValue that closes while an enum is current finds a value of that enum.
--
-- `Tracked` holds of every builder that the events of a document lead to: where an enum is current
-- and a validValue is open above the nearest open enum, the items hold a value of the current enum.
-- It holds of the empty builder (`track-empty`), every event keeps it (`track`), and so it holds
-- wherever events lead (`reached-tracked`).
use Rattle.std.proofs.Common.{append-nil, ◌≡◌, refl, sym, ap, ◌∙◌, Bool, true, false, List, [], ◌∷◌, ◌++◌, Option, Some, None, ℕ, zero, suc, ◌+◌, arith, leb, ltb, eqb, length, get_or, set, eq-eqb}
use Rattle.texts.specs.Choice.{pick, ◌and◌}
use Rattle.texts.specs.Text.{ascii, same}
use Rattle.texts.proofs.Choosing.{by-test}
use Rattle.texts.proofs.Comparing.{same-equal}
use Rattle.refusals.specs.declared.Refusal.{Refusal}
use Rattle.refusals.specs.declared.Refusal.TheVariants.{OpenElements}
use Rattle.saxlite.specs.Event.{Event, Events, text, opens, closes, done, broken, next}
use Rattle.saxlite.specs.Events.{events}
use Rattle.model.specs.Schema.{Item, Schema, no_item, item_at, positions_from, under, last, a_value}
use Rattle.builder.specs.Builder.{if_current, Builder, Outcome, on, refused, Attributes, text_in, number_in, with_stack, with_text, with_schema, with_items, with_second, now_composite, now_enum, now_message, now_group, next_position, added, and_then, with_number, plain_item, open_schema, open_type, open_ref, open_composite, open_enum, open_value, open_message, open_group, field_in, open_field, open_by, opened, top, rest, with_second_at, value_of_enum, close_value, close_by, closed, collect}
use Rattle.model.proofs.Searching.{last_snoc, positions-snoc}
use Rattle.xmlschema.specs.Whole.{step, built, empty, refused_by, accepted, ending}
use Rattle.xmlschema.proofs.Driving.{built-on, built-refused}
use Rattle.xmlschema.specs.Tracking.{Reached, start, further, HasValue, ValuesFound, Comes, AcceptedReached, ReachedOn}
use Rattle.builder.specs.Limits.{Limits}
use Rattle.elements.specs.Elements.{element_of, other_element_of}
use Rattle.elements.specs.declared.Element.{Element}
use Rattle.elements.specs.declared.Element.TheVariants as element

never : false ≡ true → ⊥
never e = let z : ◌≡◌ {A = ℕ} 0 1 = cc in omega arith

-- ---- a value among the items, and the search for it

abbrev pub value_of : ℕ → Item → Bool
value_of e it = eqb it.kind a_value and eqb it.owner e

-- one more item leaves the value that is found, or is the one that is found
value-new : (e : ℕ) (s : Schema) (x : Item) → value_of e x ≡ true → HasValue e (with_items (s.items ++ (x ∷ [])) s)
unfolding under
value-new e s x t = record { at = 0 + length s.items; is = rw (positions-snoc (value_of e) 0 s.items x, t) (last_snoc (positions_from 0 (value_of e) s.items) (0 + length s.items)) }

value-more : (e : ℕ) (s : Schema) (x : Item) → HasValue e s → HasValue e (with_items (s.items ++ (x ∷ [])) s)
unfolding under
value-more e s x h =
    by-test (value_of e x) (value-new e s x)
    (λ f. record { at = h.at; is = rw (positions-snoc (value_of e) 0 s.items x, f, append-nil) h.is })

-- a text given to an item changes neither kind nor owner
positions-set : (e k i : ℕ) (v : List ℕ) (xs : List Item) → positions_from k (value_of e) (set xs i (with_second v (get_or xs i no_item))) ≡ positions_from k (value_of e) xs
unfolding positions_from
positions-set e k i v [] = refl
positions-set e k zero v (x ∷ xs) = refl
positions-set e k (suc i) v (x ∷ xs) = ap (λ ps. pick (value_of e x) (k ∷ ps) ps) (positions-set e (k + 1) i v xs)

has-second : (e : ℕ) (o : Option ℕ) (v : List ℕ) (s : Schema) → HasValue e s → HasValue e (with_second_at o v s)
unfolding under
has-second e None v s h = h
has-second e (Some i) v s h = record { at = h.at; is = rw (positions-set e 0 i v s.items) h.is }

-- ---- what holds of every builder that is reached

-- from the innermost open element up to the next enum: is a validValue among them
unfoldable pub tell : Element → Bool → Bool
tell element.MessageSchema b = b
tell element.Type b = b
tell element.Ref b = b
tell element.Composite b = b
tell element.Enum b = false
tell element.ValidValue b = true
tell element.Message b = b
tell element.Group b = b
tell element.Field b = b
tell element.Other b = b

unfoldable pub owed : List (List ℕ) → Bool
owed [] = false
owed (n ∷ ns) = tell (element_of n) (owed ns)

record Tracked (b : Builder) : Type 0 where
  pub has : (e : ℕ) → b.current.enum ≡ Some e → owed b.stack ≡ true → HasValue e b.schema

-- what holds of an outcome's builder, if there is one
abbrev pub Holds : (Builder → Type 0) → Outcome → Type 0
Holds P (on b) = P b
Holds P (refused r) = Unit {0}

-- ---- open

module _ (P : Builder → Type 0) where
  holds-number : (place : ℕ) (o : Option ℕ) (k : ℕ → Outcome) → ((n : ℕ) → Holds P (k n)) → Holds P (with_number place o k)
  holds-number place None k h = tt
  holds-number place (Some n) k h = h n

  holds-current : (o : Option ℕ) (b : Builder) (k : ℕ → Outcome) → P b → ((n : ℕ) → Holds P (k n)) → Holds P (if_current o b k)
  holds-current None b k p h = p
  holds-current (Some n) b k p h = h n

  holds-pick : (t : Bool) (x y : Outcome) → Holds P x → Holds P y → Holds P (pick t x y)
  holds-pick true x y f g = f
  holds-pick false x y f g = g

  holds-added : (l : Limits) (place : ℕ) (it : Item) (b : Builder) → P (with_schema (with_items (b.schema.items ++ (it ∷ [])) b.schema) b) → Holds P (added l place it b)
  unfolding added
  holds-added l place it b h = holds-pick (leb l.items (next_position b)) (refused _) (on (with_schema (with_items (b.schema.items ++ (it ∷ [])) b.schema) b)) tt h

  holds_then : (Q : Builder → Type 0) (f : Builder → Builder) (o : Outcome) → ((b : Builder) → Q b → P (f b)) → Holds Q o → Holds P (and_then f o)
  holds_then Q f (on b) h q = h b q
  holds_then Q f (refused r) h q = tt

module _ (l : Limits) (place : ℕ) (a : Attributes) (b : Builder) where
  -- one more item keeps it
  track-added : (it : Item) → Tracked b → Holds Tracked (added l place it b)
  track-added it T = holds-added Tracked l place it b (record { has = λ e q o. value-more e b.schema it (T.has e q o) })

  -- and so does what follows, where it changes neither enum, stack nor schema
  track-then : (f : Builder → Builder) → ((c : Builder) → Tracked c → Tracked (f c)) → (it : Item) → Tracked b → Holds Tracked (and_then f (added l place it b))
  track-then f h it T = holds_then Tracked Tracked f (added l place it b) h (track-added it T)

  track-field : (id m : ℕ) (o : Option ℕ) → Tracked b → Holds Tracked (field_in l place a id m o b)
  track-field id m None T = track-added _ T
  track-field id m (Some g) T = holds-pick Tracked (eqb (item_at b.schema g).owner m) _ _ (track-added _ T) tt

  -- a new enum: no validValue stands above it
  track-enum : owed b.stack ≡ false → Holds Tracked (open_enum l place a b)
  unfolding open_enum
  track-enum f =
      holds_then Tracked (λ c. owed c.stack ≡ false) (now_enum (Some (next_position b))) (added l place _ b)
      (λ c g. record { has = λ e q o. absurd (never (sym g ∙ o)) })
      (holds-added (λ c. owed c.stack ≡ false) l place _ b f)

  -- a new validValue: its value is added to the current enum
  track-value : (o : Option ℕ) → b.current.enum ≡ o → Holds Tracked (if_current o (with_text b.collecting [] b) (λ e. and_then (with_text true []) (added l place (plain_item a_value e (text_in a "name") [] 0) b)))
  track-value None q = record { has = λ e r o. absurd (let z : ◌≡◌ {A = Option ℕ} None (Some e) = sym q ∙ r in let y : ◌≡◌ {A = ℕ} 0 1 = cc in omega arith) }
  track-value (Some e) q =
      let it : Item = plain_item a_value e (text_in a "name") [] 0 in
      holds_then Tracked Tracked (with_text true []) (added l place it b)
      (λ c t. record { has = t.has })
      (holds-added Tracked l place it b (record { has = λ d r o. value-new d b.schema it (let z : e ≡ d = cc in eq-eqb e d z) }))

module _ (l : Limits) (place : ℕ) (name : List ℕ) (a : Attributes) (b : Builder) (T : Tracked b) where
  abbrev inner : Builder
  inner = with_stack (name ∷ b.stack) b

  track-open : Holds Tracked (opened l place name a b)
  unfolding under opened owed tell open_schema open_type open_ref open_composite open_value open_message open_group open_field
  track-open = holds-pick Tracked (leb l.depth (length b.stack)) _ _ tt (go (element_of name) refl (same (top b.stack) (ascii "composite")))
    where
      -- an element that is neither an enum nor a validValue
      plain : ((o : Bool) → tell (element_of name) o ≡ o) → Tracked inner
      plain f = record { has = λ e q o. T.has e q (sym (f (owed b.stack)) ∙ o) }

      go : (x : Element) → element_of name ≡ x → (inside : Bool) → Holds Tracked (open_by x l place inside a inner)
      go element.MessageSchema q inside =
          let t : Tracked inner = plain (λ o. rw q) in
          holds-number Tracked place (number_in a "id") _ (λ id. holds-number Tracked place (number_in a "version") _ (λ version. record { has = λ e r o. let h = t.has e r o in record { at = h.at; is = h.is } }))
      go element.Type q inside =
          let t : Tracked inner = plain (λ o. rw q) in
          holds-number Tracked place (number_in a "length") _ (λ n. holds-pick Tracked inside _ _ (holds-current Tracked b.current.composite inner _ t (λ c. track-added l place a inner _ t)) (track-added l place a inner _ t))
      go element.Ref q inside = let t : Tracked inner = plain (λ o. rw q) in holds-current Tracked b.current.composite inner _ t (λ c. track-added l place a inner _ t)
      go element.Composite q inside = track-then l place a inner (now_composite (Some (next_position b))) (λ c t. record { has = t.has }) _ (plain (λ o. rw q))
      go element.Enum q inside = track-enum l place a inner (rw q)
      go element.ValidValue q inside = track-value l place a inner b.current.enum refl
      go element.Message q inside = holds-number Tracked place (number_in a "id") _ (λ id. track-then l place a inner (now_message (Some (next_position b))) (λ c t. record { has = t.has }) _ (plain (λ o. rw q)))
      go element.Group q inside =
          let t : Tracked inner = plain (λ o. rw q) in
          holds-number Tracked place (number_in a "id") _
          (λ id. holds-current Tracked b.current.message inner _ t (λ m. track-then l place a inner (now_group (Some (next_position b))) (λ c u. record { has = u.has }) _ t))
      go element.Field q inside =
          let t : Tracked inner = plain (λ o. rw q) in
          holds-number Tracked place (number_in a "id") _ (λ id. holds-current Tracked b.current.message inner _ t (λ m. track-field l place a inner id m b.current.group t))
      go element.Other q inside = plain (λ o. rw q)

-- ---- close

nameless : element_of [] ≡ element.Other
unfolding element_of other_element_of same
nameless = refl

-- the value is given: the items keep their kinds and owners
track-valued : (b : Builder) (o : Option ℕ) → ((e : ℕ) → b.current.enum ≡ Some e → HasValue e b.schema) → Tracked (with_text false [] (value_of_enum o b))
track-valued b None h = record { has = λ e q o. h e q }
track-valued b (Some d) h = record { has = λ e q o. has-second e (last (under a_value d b.schema)) _ b.schema (h e q) }

module _ (place : ℕ) (name : List ℕ) (b : Builder) (T : Tracked b) where
  track-close : Holds Tracked (closed place name b)
  unfolding closed owed tell close_value
  track-close = by-test (same name (top b.stack)) (λ t. rw t (go b.stack refl t)) (λ f. rw f tt)
    where
      -- ns are open once the innermost has gone
      shut : (ns : List (List ℕ)) → owed b.stack ≡ tell (element_of name) (owed ns) → (x : Element) → element_of name ≡ x → Tracked (close_by x (with_stack ns b))
      shut ns w element.MessageSchema x = record { has = λ e q o. T.has e q (w ∙ ap (λ y. tell y (owed ns)) x ∙ o) }
      shut ns w element.Type x = record { has = λ e q o. T.has e q (w ∙ ap (λ y. tell y (owed ns)) x ∙ o) }
      shut ns w element.Ref x = record { has = λ e q o. T.has e q (w ∙ ap (λ y. tell y (owed ns)) x ∙ o) }
      shut ns w element.Composite x = record { has = λ e q o. T.has e q (w ∙ ap (λ y. tell y (owed ns)) x ∙ o) }
      shut ns w element.Enum x = record { has = λ e q o. absurd (let y : ◌≡◌ {A = ℕ} 0 1 = cc in omega arith) }
      shut ns w element.ValidValue x = track-valued (with_stack ns b) b.current.enum (λ e q. T.has e q (w ∙ ap (λ y. tell y (owed ns)) x))
      shut ns w element.Message x = record { has = λ e q o. T.has e q (w ∙ ap (λ y. tell y (owed ns)) x ∙ o) }
      shut ns w element.Group x = record { has = λ e q o. T.has e q (w ∙ ap (λ y. tell y (owed ns)) x ∙ o) }
      shut ns w element.Field x = record { has = λ e q o. T.has e q (w ∙ ap (λ y. tell y (owed ns)) x ∙ o) }
      shut ns w element.Other x = record { has = λ e q o. T.has e q (w ∙ ap (λ y. tell y (owed ns)) x ∙ o) }

      go : (st : List (List ℕ)) → b.stack ≡ st → same name (top st) ≡ true → Tracked (close_by (element_of name) (with_stack (rest st) b))
      go [] q t = let x : element_of name ≡ element.Other = ap element_of (same-equal name [] t) ∙ nameless in rw x (record { has = λ e r o. absurd (never o) })
      go (n ∷ ns) q t = shut ns (ap owed q ∙ ap (λ x. tell (element_of x) (owed ns)) (sym (same-equal name n t))) (element_of name) refl

-- ---- text

track-collect : (s : List ℕ) (b : Builder) → Tracked b → Tracked (collect s b)
unfolding collect
track-collect s b T = go b.collecting
  where
    go : (t : Bool) → Tracked (pick t (with_text true (b.collected ++ s) b) b)
    go true = record { has = T.has }
    go false = T

-- ---- every event keeps it, and it holds at the start

track : (l : Limits) (place : ℕ) (ev : Event) (b : Builder) → Tracked b → Holds Tracked (step l place ev b)
track l place (text t) b T = track-collect t b T
track l place (opens name a) b T = track-open l place name a b T
track l place (closes name) b T = track-close place name b T

track-empty : Tracked empty
unfolding owed
track-empty = record { has = λ e q o. absurd (never o) }

-- so a closing validValue finds its value
value_found : (b : Builder) (n : List ℕ) (ns : List (List ℕ)) (e : ℕ) → Tracked b → b.stack ≡ n ∷ ns → element_of n ≡ element.ValidValue → b.current.enum ≡ Some e → HasValue e b.schema
unfolding owed tell
value_found b n ns e T q v c = T.has e c (ap owed q ∙ ap (λ x. tell x (owed ns)) v)

-- ---- over all documents

reached-tracked : (l : Limits) (doc : List ℕ) (more : Events) (b : Builder) → Reached l doc more b → Tracked b
reached-tracked l doc more b start = track-empty
reached-tracked l doc rest c (further place event more b b' r q) = rw q at (track l place event b (reached-tracked l doc (next place event more) b r))

pub values_found : ValuesFound
values_found l doc place name more b e r v t q = go b.stack refl t
  where
    go : (st : List (List ℕ)) → b.stack ≡ st → same name (top st) ≡ true → HasValue e b.schema
    go [] p u = absurd (let z : element.ValidValue ≡ element.Other = sym v ∙ ap element_of (same-equal name [] u) ∙ nameless in let y : ◌≡◌ {A = ℕ} 0 1 = cc in omega arith)
    go (m ∷ ms) p u = value_found b m ms e (reached-tracked l doc (next place (closes name) more) b r) p (ap element_of (sym (same-equal name m u)) ∙ v) q

-- ---- what is reached, and what a whole document makes

pub reached_on : ReachedOn
reached_on l doc more b start = refl
reached_on l doc rest c (further place event more b b' r q) =
    sym (built-on l place event more b b' q) ∙ reached_on l doc (next place event more) b r

module _ (l : Limits) (doc : List ℕ) (s : Schema) where
  ends : (b : Builder) → Reached l doc done b → (t : Bool) (r : Refusal) → pick t (refused_by r) (accepted b.schema) ≡ accepted s → Comes l doc s
  ends b h true r q = absurd (let y : ◌≡◌ {A = ℕ} 0 1 = cc in omega arith)
  ends b h false r q = record { builder = b; reached = h; is = cc }

  comes : (more : Events) (b : Builder) → Reached l doc more b → ending doc (built l more b) ≡ accepted s → Comes l doc s
  unfolding built ending
  comes done b h q = ends b h (ltb 0 (length b.stack)) (OpenElements (length doc)) q
  comes (broken r) b h q = absurd (let y : ◌≡◌ {A = ℕ} 0 1 = cc in omega arith)
  comes (next place event more) b h q = go (λ b'. comes more b') (step l place event b) refl
    where
      go : ((b' : Builder) → Reached l doc more b' → ending doc (built l more b') ≡ accepted s → Comes l doc s) → (o : Outcome) → step l place event b ≡ o → Comes l doc s
      go again (on b') e = again b' (further place event more b b' h e) (ap (ending doc) (sym (built-on l place event more b b' e)) ∙ q)
      go again (refused r) e = absurd (let z : refused_by r ≡ accepted s = sym (ap (ending doc) (built-refused l place event more b r e)) ∙ q in let y : ◌≡◌ {A = ℕ} 0 1 = cc in omega arith)

pub accepted_reached : AcceptedReached
accepted_reached l doc s q = comes l doc s (events doc) empty start q
