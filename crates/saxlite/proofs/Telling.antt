-- Laws of text, close tags and open tags; each premise is the result of a call or a test.
use Rattle.std.proofs.Common.{Some, None, Result, Ok, Err, ◌≡◌, refl, sym, ap, ◌∙◌, Bool, true, false, List, [], ℕ, ◌+◌, ◌-◌, ◌≤◌, ◌<◌, arith, length, drop, eq-eqb, ne_eqb, rules}
use Rattle.texts.specs.Choice.{pick}
use Rattle.texts.specs.Text.{ascii, piece, starts_with}
use Rattle.texts.specs.Scan.{scan, until, is}
use Rattle.texts.proofs.Scanning.{scan-from}
use Rattle.classes.specs.Class.{is_space, is_tag_name_end}
use Rattle.refusals.specs.declared.Refusal.{Refusal}
use Rattle.refusals.specs.declared.Refusal.TheVariants.{NoCloseTagEnd, NoTagName}
use Rattle.tags.specs.declared.part.Ending.{Ending}
use Rattle.tags.specs.declared.tag.NotedTag.{NotedTag}
use Rattle.tags.specs.declared.beginning.UsualName.{UsualName}
use Rattle.tags.specs.declared.beginning.Beginning.{Beginning}
use Rattle.tags.specs.Names.{prefix_length, local_name}
use Rattle.tags.specs.Attributes.{tag_at}
use Rattle.tags.specs.internal.Noting.{NotedBy}
use Rattle.tags.specs.internal.Beginning.{IsUsual, BeginsAt}
use Rattle.tags.proofs.Searching.{stands-within, stands_on, stands-fits, scan-within, scan-moves}
use Rattle.tags.proofs.Naming.{local-range, local-within, local-fits}
use Rattle.tags.proofs.Ranges.{ending-past, ending-inside}
use Rattle.tags.proofs.Begun.{closing-within, closing-fits, closing-next-fits, closing-short, closing-local-fits, closing-ends, closing-due, closing-stands, closing-prefix, closing-element, begun-from, begun-short, begun-fits}
use Rattle.saxlite.specs.Event.{Events, opens, closes, next, attributes_in}
use Rattle.saxlite.specs.Events.{text_at, close_at, open_by, open_at, events_at, events_from}
use Rattle.saxlite.specs.internal.Passing.{is_silent}
use Rattle.saxlite.specs.Reader.{owed_before}
use Rattle.elements.specs.Elements.{element_of}
use Rattle.elements.specs.Keys.{keys_of}
use Rattle.elements.specs.declared.Element.{Element}
use Rattle.elements.specs.declared.Element.TheVariants.{Other}
use Rattle.saxlite.specs.internal.Moving.{bare, cursor_past, owing, OwedElement, OwedInside, Here}
use Rattle.saxlite.specs.declared.event.Event.TheVariants.{Text, Open, Close}
use Rattle.saxlite.specs.declared.event.Owed.{Owed}
use Rattle.saxlite.specs.declared.event.Cursor.{Cursor}
use Rattle.saxlite.specs.declared.event.Read.{Read}
use Rattle.saxlite.proofs.Following.{from-on}
use Rattle.saxlite.proofs.Silence.{front-not, second-differs, silent-not}

-- ---- text

pub text-told : (doc : List ℕ) (at : ℕ) → at < length doc → starts_with (ascii "<") (drop at doc) ≡ false → {end : ℕ} → end ≡ scan (until (is 60)) doc at
    → {r : Read} → r ≡ bare (Text (record { from = at; len = end - at })) Other at end → Here (text_at (events_from doc) doc at) doc at (Ok r)
unfolding text_at
text-told doc at h f {end} e k =
    let m : at < end = rw e (scan-moves 60 doc at h f) in
    let w : end ≤ length doc = rw e (scan-within (until (is 60)) doc at (omega arith)) in
    rw k
    (record {
      is = rw (← e) refl;
      moves = record { grows = omega arith; less = omega arith; sound = λ l. record { within = w; owed = tt }; inside = omega arith; closes = tt; owes = tt; element = refl; noted = tt };
    })

-- ---- a close tag

module _ (doc : List ℕ) (at : ℕ) {end : ℕ} (e : end ≡ scan (until is_tag_name_end) doc (at + 2)) {due : ℕ} (d : due ≡ scan is_space doc end) {b : Bool} (s : b ≡ starts_with (ascii ">") (drop due doc)) where
  pub close-told : b ≡ true → {w : List ℕ} → w ≡ piece doc (at + 2) (end - (at + 2)) → {prefix : ℕ} → prefix ≡ prefix_length w
      → {v : List ℕ} → v ≡ piece doc (at + 2 + prefix) (end - (at + 2) - prefix) → {f : Element} → f ≡ element_of v
      → {r : Read} → r ≡ bare (Close (record { from = at + 2 + prefix; len = end - (at + 2) - prefix })) f at (due + 1) → Here (close_at (events_from doc) doc at) doc at (Ok r)
  unfolding close_at
  close-told t {w} p {prefix} l {v} u {f} i k =
      let n : piece doc (at + 2 + prefix) (end - (at + 2) - prefix) ≡ local_name (piece doc (at + 2) (end - (at + 2))) = rw (l, p) (local-range doc (at + 2) (end - (at + 2))) in
      let h : due + 1 ≤ length doc = stands-within (ascii ">") doc due (sym s ∙ t) (omega arith) in
      let g : at + 2 ≤ due = omega (arith, e, d, scan-from (until is_tag_name_end) doc (at + 2), scan-from is_space doc end) in
      rw k
      (record {
        is = rw (← e, ← d, ← s, t) (ap (λ m. next at (closes m) (events_from doc (due + 1))) (sym n));
        moves = record { grows = omega arith; less = omega arith; sound = λ z. record { within = h; owed = tt }; inside = tt; closes = λ z. omega (arith, local-within doc (at + 2) (end - (at + 2)) p l); owes = tt; element = λ z. i ∙ ap element_of u; noted = tt };
      })

  pub close-open : b ≡ false → Here (close_at (events_from doc) doc at) doc at (Err (NoCloseTagEnd due at))
  unfolding close_at
  close-open t = record { is = rw (← e, ← d, ← s, t) refl; moves = tt }

pub known-told : (doc : List ℕ) (at : ℕ) {k : UsualName} → IsUsual 62 doc (at + 2) k
    → {r : Read} → r ≡ bare (Close (record { from = at + 2 + k.prefix; len = k.len - k.prefix })) k.element at (at + 2 + k.len + 1) → Here (close_at (events_from doc) doc at) doc at (Ok r)
known-told doc at {k} b e =
    let z : at + 2 + k.len - (at + 2) ≡ k.len = omega arith in
    close-told doc at (closing-ends doc at b) (closing-due doc at b) (closing-stands doc at b) refl refl (closing-prefix doc at b ∙ rw z refl) refl (closing-element doc at b ∙ rw z refl) (e ∙ rw z refl)

-- ---- an open tag

owing-most : (closed : Bool) (o : Owed) → owing (pick closed (Some o) None) ≤ 1
owing-most true o = omega arith
owing-most false o = omega arith

owed-right : (doc : List ℕ) (o : Owed) (closed : Bool) → o.element ≡ element_of (piece doc o.name.from o.name.len) → OwedElement doc (pick closed (Some o) None)
owed-right doc o true e = e
owed-right doc o false e = tt

owed-inside : (doc : List ℕ) (o : Owed) (closed : Bool) → o.name.from + o.name.len ≤ length doc → OwedInside doc (pick closed (Some o) None)
owed-inside doc o true l = l
owed-inside doc o false l = tt

owed-behind : (doc : List ℕ) (at : ℕ) (name : List ℕ) (o : Owed) (closed : Bool) (more : Events) → o.place ≡ at → piece doc o.name.from o.name.len ≡ name
    → pick closed (next at (closes name) more) more ≡ owed_before doc (pick closed (Some o) None) more
owed-behind doc at name o true more p n = rw (p, n) refl
owed-behind doc at name o false more p n = refl

module _ (doc : List ℕ) (at : ℕ) (h : at + 1 ≤ length doc) {b : Beginning} (a : BeginsAt doc (at + 1) b) where
  pub open-unnamed : b.end ≡ at + 1 → Here (open_at (events_from doc) doc at) doc at (Err (NoTagName (at + 1) at))
  unfolding open_at
  open-unnamed q = record { is = rw (← a.ends, eq-eqb b.end (at + 1) q) refl; moves = tt }

  module _ (q : b.end ≡ at + 1 → ⊥) {w : NotedTag} (t : w.ending ≡ (tag_at doc b.end at).ending) (u : NotedBy (keys_of b.element) doc b.end w.noted) where
    pub open-broken : {refusal : Refusal} → w.ending ≡ Err refusal → Here (open_at (events_from doc) doc at) doc at (Err refusal)
    unfolding open_at open_by
    open-broken f = record { is = rw (← a.ends, ne_eqb b.end (at + 1) q, ← t, f) refl; moves = tt }

    abbrev local : ℕ
    local = at + 1 + b.prefix

    abbrev long : ℕ
    long = b.end - (at + 1) - b.prefix

    abbrev owes : Owed
    owes = record { place = at; name = record { from = local; len = long }; element = b.element }

    pub open-told : {ending : Ending} → w.ending ≡ Ok ending → {c : Cursor} → c ≡ cursor_past ending owes
        → Here (open_at (events_from doc) doc at) doc at (Ok (record { told = record { event = Open owes.name b.end ending.next; element = b.element; place = at; noted = w.noted }; cursor = c }))
    unfolding open_at open_by
    open-told {ending} f {c} k =
        let n : piece doc local long ≡ local_name (piece doc (at + 1) (b.end - (at + 1))) = rw a.prefix (local-range doc (at + 1) (b.end - (at + 1))) in
        let g : (tag_at doc b.end at).ending ≡ Ok ending = sym t ∙ f in
        let m : b.end < ending.next = ending-past doc b.end at g in
        let i : ending.next ≤ length doc = ending-inside doc b.end at g in
        let s : at + 1 ≤ b.end = begun-from doc (at + 1) a in
        let l : b.prefix ≤ b.end - (at + 1) = begun-short doc (at + 1) a in
        record {
          is =
              rw (← a.ends, ne_eqb b.end (at + 1) q, g, ← n, k)
              (ap (next at (opens (piece doc local long) (attributes_in doc b.end))) (owed-behind doc at (piece doc local long) owes ending.self_closed (events_from doc ending.next) refl refl));
          moves =
              record {
                grows = rw k (omega arith);
                less = rw k (omega (arith, owing-most ending.self_closed owes));
                sound = λ z. rw k (record { within = i; owed = owed-right doc owes ending.self_closed a.element });
                inside = (record { place = at; closed = ending.self_closed; is = g }, omega arith);
                closes = tt;
                owes = rw k (owed-inside doc owes ending.self_closed (omega arith));
                element = a.element;
                noted = u;
              };
        }

-- ---- what stands at a position

module _ (doc : List ℕ) (at : ℕ) (h : at < length doc) {r : Result Read Refusal} {b : Bool} (e : b ≡ starts_with (ascii "<") (drop at doc)) where
  pub here-text : b ≡ false → Here (text_at (events_from doc) doc at) doc at r → Here (events_from doc at) doc at r
  unfolding events_at
  here-text t x =
      let f : starts_with (ascii "<") (drop at doc) ≡ false = sym e ∙ t in
      record {
        is =
            from-on doc h
            ∙ rw (front-not (ascii "<") (ascii "!--") (drop at doc) f, front-not (ascii "<") (ascii "?") (drop at doc) f, front-not (ascii "<") (ascii "!") (drop at doc) f, front-not (ascii "<") (ascii "/") (drop at doc) f, f) x.is;
        moves = x.moves;
      }

  module _ (t : b ≡ true) {c : Bool} (g : c ≡ starts_with (ascii "</") (drop at doc)) where
    pub here-close : c ≡ true → Here (close_at (events_from doc) doc at) doc at r → Here (events_from doc at) doc at r
    unfolding events_at
    here-close y x =
        let k : starts_with (ascii "</") (drop at doc) ≡ true = sym g ∙ y in
        record {
          is = from-on doc h ∙ rw (second-differs 60 47 33 (ascii "--") (drop at doc) refl k, second-differs 60 47 63 [] (drop at doc) refl k, second-differs 60 47 33 [] (drop at doc) refl k, k) x.is;
          moves = x.moves;
        }

    pub here-open : c ≡ false → is_silent doc at ≡ false → Here (open_at (events_from doc) doc at) doc at r → Here (events_from doc at) doc at r
    unfolding events_at
    here-open n q x =
        let s = silent-not doc at q in
        record {
          is = from-on doc h ∙ rw (front-not (ascii "<!") (ascii "--") (drop at doc) s.0, s.1, s.0, ← g, n, ← e, t) x.is;
          moves = x.moves;
        }

-- '</' stands within the document
pub close-stands : (doc : List ℕ) (at : ℕ) {c : Bool} → c ≡ starts_with (ascii "</") (drop at doc) → c ≡ true → at + 2 ≤ length doc
close-stands doc at g y = stands-within (ascii "</") doc at (sym g ∙ y) (omega arith)

pub ruleset telling = (stands_on, stands-fits, local-within, local-fits, closing-fits, closing-next-fits, closing-short, closing-local-fits, begun-from, begun-short, begun-fits, text-told, close-told, close-open, known-told, open-unnamed, open-broken, open-told, here-text, here-close, here-open, close-stands, rules)
