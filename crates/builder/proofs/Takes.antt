-- Laws of taking texts, of numbers read on the way, and of the entries made of them.
use Rattle.texts.specs.declared.Range.{Range}
use Rattle.std.proofs.Common.{Option, Some, None, ◌≡◌, refl, sym, ap, ◌∙◌, true, not, List, [], ◌∷◌, ℕ, suc, ◌+◌, ◌-◌, ◌≤◌, arith, eqb, leb, length, length-take, eqb-true, ne_eqb, leb-true}
use lib.Seq.{sets, length-sets}
use Rattle.texts.specs.Choice.{◌and◌}
use Rattle.texts.specs.Scan.{count_while, until, is}
use Rattle.texts.proofs.Choosing.{by-test, both_true}
use Rattle.texts.proofs.Scanning.{count_yes}
use Rattle.texts.specs.Text.{piece}
use Rattle.texts.proofs.Stores.{piece-stored, piece-above}
use Rattle.entities.specs.Entities.{decoded}
use Rattle.tags.specs.Attributes.{raw_length}
use Rattle.saxlite.specs.Event.{value_in}
use Rattle.entities.proofs.Decoding.{decoded-length}
use Rattle.entities.proofs.Copying.{plain-decoded}
use Rattle.builder.specs.Builder.{or_empty, is_given}
use Rattle.model.specs.internal.Store.{item_of}
use Rattle.builder.specs.internal.Layout.{Steady}
use Rattle.builder.specs.internal.Taking.{TakenAt, ReadAt, Made, drafted_item, draft_length}
use Rattle.model.specs.declared.Entry.{Entry}
use Rattle.numbers.specs.Numbers.{is_digit, all_digits, bounded_from, digits_of, unsigned, number_of}
use Rattle.builder.specs.declared.take.Draft.{Draft}
use Rattle.builder.proofs.Alikes.{alike_self, alike-sets, alike-wider, alike-trans}

length-piece-le : (s : List ℕ) (a n : ℕ) → length (piece s a n) ≤ n
length-piece-le s a n = rw length-take (omega arith)

-- what is decoded is no longer than its piece
pub decoded-most : (doc : List ℕ) (from len : ℕ) → length (decoded (piece doc from len)) ≤ len
decoded-most doc from len = omega (arith, decoded-length (piece doc from len), length-piece-le doc from len)

-- ---- a value

pub value-least : (high : ℕ) {f : Option Range} {v : Range} → f ≡ Some v → raw_length f ≤ high → v.len ≤ high
value-least high e h = rw e at h

pub value_room : (text : List ℕ) (high : ℕ) {f : Option Range} {v : Range} → f ≡ Some v → raw_length f ≤ high → high ≤ length text → high - v.len + v.len ≤ length text
value_room text high e h k = omega (arith, value-least high e h)

module _ (doc text : List ℕ) (high : ℕ) {f : Option Range} where
  pub taken-absent : f ≡ None → TakenAt f doc text high (record { from = high; len = 0 }) text
  taken-absent e = rw e (record { start = omega arith; is = refl; within = omega arith; alike = λ a h. alike_self; long = refl })

  -- n bytes are written
  module _ {v : Range} (e : f ≡ Some v) {n : ℕ} {text' : List ℕ} (q : n ≡ length (decoded (piece doc v.from v.len))) (p : text' ≡ sets text (high - v.len) (decoded (piece doc v.from v.len))) where
    pub taken-value : raw_length f ≤ high → high ≤ length text → TakenAt f doc text high (record { from = high - v.len; len = n }) text'
    taken-value h k =
        let w = decoded (piece doc v.from v.len) in
        let least : v.len ≤ high = rw e at h in
        let z = decoded-most doc v.from v.len in
        rw (e, p)
        (record {
          start = omega (arith, least);
          is = rw q (piece-stored w text (high - v.len) (length w) refl (omega (arith, least)));
          within = omega (arith, q);
          alike = λ a b. alike-sets text w a high (high - v.len) b (omega (arith, least));
          long = length-sets text (high - v.len) w;
        })

-- ---- a number

module _ (doc text : List ℕ) (low : ℕ) {f : Option Range} where
  pub number-absent : f ≡ None → ReadAt f doc low text (Some 0) text
  unfolding number_of
  number-absent e = rw e (record { is = refl; scratch = record { alike = λ h k. alike_self; long = refl } })

  module _ {v : Range} (e : f ≡ Some v) where
    pub number_fits : low + raw_length f ≤ length text → low + v.len ≤ length text
    number_fits h = rw e at h

    pub number_at : {r : Option ℕ} {text' : List ℕ} → ReadAt (Some v) doc low text r text' → ReadAt f doc low text r text'
    number_at q = rw e q

module _ (doc text : List ℕ) (low : ℕ) where
  pub number-value : (v : Range) → low + v.len ≤ length text
      → ReadAt (Some v) doc low text (number_of (Some (piece (sets text low (decoded (piece doc v.from v.len))) low (length (decoded (piece doc v.from v.len)))))) (sets text low (decoded (piece doc v.from v.len)))
  number-value v fits =
      let t = decoded (piece doc v.from v.len) in
      let z = decoded-most doc v.from v.len in
      record {
        is = ap (λ x. number_of (Some x)) (piece-stored t text low (length t) refl (omega (arith, fits)));
        scratch =
            record {
              alike = λ a b. alike-sets text t low a low (omega arith) (omega arith);
              long = length-sets text low t;
            };
      }

-- bytes that are a number as they stand hold no '&'
digit-plain : (s : List ℕ) → all_digits s ≡ true → count_while (until (is 38)) s ≡ length s
unfolding all_digits is_digit
digit-plain [] t = refl
digit-plain (b ∷ s) t =
    let h = both_true (leb 48 b and leb b 57) (all_digits s) t in
    let l : 48 ≤ b = leb-true 48 b (both_true (leb 48 b) (leb b 57) h.0).0 in
    count_yes (until (is 38)) b s (ap not (ne_eqb b 38 (λ e. omega arith))) ∙ ap suc (digit-plain s h.1)

bounded-digits : (n : ℕ) (s : List ℕ) {v : ℕ} → bounded_from n s ≡ Some v → all_digits s ≡ true
unfolding bounded_from
bounded-digits n s e =
    by-test (all_digits s) (λ t. t)
    (λ f. absurd (let z : ◌≡◌ {A = Option ℕ} None (Some _) = rw f at e in let w : ◌≡◌ {A = ℕ} 0 1 = cc in omega arith))

digits-plain : (s : List ℕ) {v : ℕ} → digits_of s ≡ Some v → count_while (until (is 38)) s ≡ length s
unfolding digits_of
digits-plain [] e = refl
digits-plain (b ∷ s) e = digit-plain (b ∷ s) (bounded-digits 0 (b ∷ s) e)

number-plain : (s : List ℕ) {v : ℕ} → number_of (Some s) ≡ Some v → count_while (until (is 38)) s ≡ length s
unfolding number_of unsigned
number-plain [] e = refl
number-plain (b ∷ s) e =
    by-test (eqb b 43)
    (λ t. count_yes (until (is 38)) b s (ap not (ne_eqb b 38 (λ q. omega (arith, eqb-true b 43 t)))) ∙ ap suc (digits-plain s (rw t at e)))
    (λ f. digits-plain (b ∷ s) (rw f at e))

pub number-told : (doc text : List ℕ) (low : ℕ) {f : Option Range} {v : Range} → f ≡ Some v → {w : List ℕ} → w ≡ piece doc v.from v.len → {r : Option ℕ} → r ≡ number_of (Some w) → {n : ℕ} → r ≡ Some n → ReadAt f doc low text (Some n) text
number-told doc text low e {w} ew er {n} en =
    let o : number_of (Some w) ≡ Some n = sym er ∙ en in
    let d : decoded w ≡ w = plain-decoded w (number-plain w o) in
    rw e
    (record {
      is = sym (ap (λ x. number_of (Some x)) (ap decoded (sym ew) ∙ d) ∙ o);
      scratch = record { alike = λ h k. alike_self; long = refl };
    })

-- one digit; r is what stands there
pub digit-told : (doc text : List ℕ) (low : ℕ) {f : Option Range} {v : Range} → f ≡ Some v → v.len ≡ 1
    → {r : Option ℕ} → ((n : ℕ) → r ≡ Some n → r ≡ number_of (Some (piece doc v.from 1))) → {n : ℕ} → r ≡ Some n → ReadAt f doc low text (Some n) text
digit-told doc text low {v = v} e el q {n} en = number-told doc text low e (ap (piece doc v.from) (sym el)) (q n en) en

-- whether a value is there
pub given-not : {f : Option Range} → f ≡ None → (doc : List ℕ) → eqb 0 1 ≡ is_given (value_in doc f)
given-not e doc = rw e

pub given_yes : {f : Option Range} {v : Range} → f ≡ Some v → (doc : List ℕ) → eqb 1 1 ≡ is_given (value_in doc f)
given_yes e doc = rw e

-- ---- entries

-- an entry whose texts lie from its encoding on
steady : (text : List ℕ) (e : Entry) → e.encoding ≤ e.name → e.encoding ≤ e.second → (a : ℕ) → Steady a e.encoding text e
unfolding item_of
steady text e h k a =
    record {
      item = λ t b.
          rw (
            piece-above text t e.encoding e.name e.nlen h b.above,
            piece-above text t e.encoding e.second e.slen k b.above,
            piece-above text t e.encoding e.encoding e.elen (omega arith) b.above,
          );
    }

module _ (d : Draft) (doc text : List ℕ) (high : ℕ) {x : Range} {t₁ : List ℕ} (p : TakenAt d.name doc text high x t₁)
    {y : Range} {t₂ : List ℕ} (q : TakenAt d.second doc t₁ x.from y t₂)
    {z : Range} {t₃ : List ℕ} (r : TakenAt d.encoding doc t₂ y.from z t₃)
  where
    -- the first two texts are where they were
    one : piece t₃ x.from x.len ≡ or_empty (value_in doc d.name)
    one =
        piece-above t₂ t₃ y.from x.from x.len (omega (arith, q.start)) (r.alike 0 (omega arith)).above
        ∙ piece-above t₁ t₂ x.from x.from x.len (omega arith) (q.alike 0 (omega arith)).above
        ∙ p.is

    two : piece t₃ y.from y.len ≡ or_empty (value_in doc d.second)
    two = piece-above t₂ t₃ y.from y.from y.len (omega arith) (r.alike 0 (omega arith)).above ∙ q.is

    pub made-draft : (g : ℕ) → ((d' : List ℕ) → eqb g 1 ≡ is_given (value_in d' d.given)) → Made (drafted_item d doc) (draft_length d) high text
        (record { kind = d.kind; owner = d.owner; name = x.from; nlen = x.len; second = y.from; slen = y.len; number = d.number; given = g; encoding = z.from; elen = z.len }) t₃
    unfolding item_of
    made-draft g eg =
        record {
          is = rw (one, two, r.is, eg doc);
          steady = steady t₃ _ (omega (arith, q.start, r.start)) (omega (arith, r.start));
          start = omega (arith, p.start, q.start, r.start);
          alike = λ a h.
              alike-trans (p.alike a (omega (arith, q.start, r.start)))
              (alike-trans (alike-wider t₁ t₂ a x.from high (omega (arith, p.start)) (q.alike a (omega (arith, r.start))))
              (alike-wider t₂ t₃ a y.from high (omega (arith, p.start, q.start)) (r.alike a h)));
          long = r.long ∙ q.long ∙ p.long;
        }
