-- Laws of the beginning of a tag.
use Rattle.std.proofs.Common.{◌≡◌, refl, sym, ap, ◌∙◌, Bool, true, false, List, [], ◌∷◌, ◌++◌, append_assoc, ℕ, ◌+◌, ◌-◌, ◌≤◌, ◌<◌, ◌^◌, arith, add-zero, T, length, take, drop, length-append, drop-drop, Fits, w64, eqb, eqb-true}
use lib.Seq.{take-append_seam, drop-append_seam}
use Rattle.texts.specs.Lists.{all}
use Rattle.texts.specs.Text.{ascii, piece, same, starts_with}
use Rattle.texts.specs.Scan.{count_while, scan, until}
use Rattle.texts.proofs.Choosing.{is_true, and_left, and_right}
use Rattle.texts.proofs.Scanning.{count_no, scan-from}
use Rattle.classes.specs.Class.{is_space, is_tag_name_end}
use Rattle.swar.specs.internal.Standing.{StandsShort, StandsLong}
use Rattle.swar.proofs.Standing.{power-some}
use Rattle.tags.specs.declared.beginning.UsualName.{UsualName}
use Rattle.tags.specs.declared.beginning.Beginning.{Beginning}
use Rattle.elements.specs.Elements.{element_of}
use Rattle.elements.specs.declared.Element.{Element}
use Rattle.elements.specs.declared.Element.TheVariants.{MessageSchema}
use Rattle.tags.specs.Names.{prefix_length, local_name}
use Rattle.tags.specs.internal.Beginning.{usual_raw, tagged_text, Says, IsUsual, UsualShort, UsualLong, BeginsAt}
use Rattle.tags.proofs.Searching.{stands-within}
use Rattle.tags.proofs.Naming.{prefix-within, local-within, local-fits, local-range}
use Rattle.tags.proofs.Knowing.{starts-split, count-to}
use Rattle.tags.proofs.Matching.{short-fits, long-fits, short-text, long-text}
use Rattle.texts.specs.Choice.{◌and◌}

-- ---- known raw names, compared as words

module _ (doc : List ℕ) (at : ℕ) {behind len : ℕ} {e : Element} {b : Bool} where
  pub begin-short : {modulus front : ℕ} → StandsShort doc at modulus front b → UsualShort behind e len modulus front → b ≡ true → IsUsual behind doc at (record { element = e; len = len; prefix = 0 })
  begin-short s t y = record { stands = sym (s.is (tagged_text behind e 0) t.text) ∙ y; says = t.says }

  pub begin-long : {prefix front modulus back : ℕ} → StandsLong doc at front modulus back b → UsualLong behind e len prefix front modulus back → b ≡ true → IsUsual behind doc at (record { element = e; len = len; prefix = prefix })
  begin-long {prefix = prefix} s t y = record { stands = sym (s.is (tagged_text behind e prefix) t.text) ∙ y; says = t.says }

pub begin-short-power : {behind len modulus front : ℕ} {e : Element} → UsualShort behind e len modulus front → 0 < modulus
begin-short-power t = power-some t.text

pub begin-long-power : {behind len prefix front modulus back : ℕ} {e : Element} → UsualLong behind e len prefix front modulus back → 0 < modulus
begin-long-power t = power-some t.text.rest

-- what a computation tests of a known raw name
abbrev says-so : Element → ℕ → ℕ → Bool
says-so e len prefix = all (until is_tag_name_end) (usual_raw e prefix) and eqb len (length (usual_raw e prefix)) and eqb prefix (prefix_length (usual_raw e prefix))

says : (e : Element) (len prefix : ℕ) → T (says-so e len prefix) → e ≡ element_of (local_name (usual_raw e prefix)) → Says e len prefix
says e len prefix t k =
    let plain = all (until is_tag_name_end) (usual_raw e prefix) in
    let long = eqb len (length (usual_raw e prefix)) in
    let u = and_right plain _ t in
    record {
      plain = and_left plain _ t;
      long = eqb-true len _ (is_true long (and_left long _ u));
      parted = eqb-true prefix _ (is_true _ (and_right long _ u));
      is = k;
    }

pub usual-short : {behind len modulus front : ℕ} {e : Element} → T (says-so e len 0) → e ≡ element_of (local_name (usual_raw e 0)) → T (short-fits (tagged_text behind e 0) modulus front) → UsualShort behind e len modulus front
usual-short {behind} {len} {e = e} t k f = record { says = says e len 0 t k; text = short-text (tagged_text behind e 0) _ _ f }

pub usual-long : {behind len prefix front modulus back : ℕ} {e : Element} → T (says-so e len prefix) → e ≡ element_of (local_name (usual_raw e prefix)) → T (long-fits (tagged_text behind e prefix) front modulus back) → UsualLong behind e len prefix front modulus back
usual-long {behind} {len} {prefix} {e = e} t k f = record { says = says e len prefix t k; text = long-text (tagged_text behind e prefix) _ _ _ f }

-- the longest one, compared as it stands
says-schema : Says MessageSchema 17 4
unfolding element_of prefix_length same all is_tag_name_end is_space
says-schema = says MessageSchema 17 4 tt refl

pub begin-schema : (behind : ℕ) (doc : List ℕ) (at : ℕ) {b : Bool} {w : List ℕ} → b ≡ starts_with w (drop at doc) → w ≡ tagged_text behind MessageSchema 4 → b ≡ true → IsUsual behind doc at (record { element = MessageSchema; len = 17; prefix = 4 })
begin-schema behind doc at e t v = record { stands = sym (ap (λ (w : List ℕ). starts_with w (drop at doc)) t) ∙ sym e ∙ v; says = says-schema }

-- ---- such a raw name is the one that the general way reads

module _ (doc : List ℕ) (name : ℕ) {behind : ℕ} {k : UsualName} (b : IsUsual behind doc name k) (e : until is_tag_name_end behind ≡ false) where
  abbrev n : List ℕ
  n = usual_raw k.element k.prefix

  abbrev rest : List ℕ
  rest = drop (length (tagged_text behind k.element k.prefix)) (drop name doc)

  split : drop name doc ≡ n ++ behind ∷ rest
  split = starts-split (tagged_text behind k.element k.prefix) (drop name doc) b.stands ∙ append_assoc n (behind ∷ []) _

  within : name + k.len + 1 ≤ length doc
  within =
      let m = length-append n (behind ∷ []) in
      omega (arith, stands-within (tagged_text behind k.element k.prefix) doc name b.stands (omega (arith, m)), m, b.says.long)

  named : piece doc name k.len ≡ n
  named = rw b.says.long (ap (take (length n)) split ∙ take-append_seam n _)

  ends : name + k.len ≡ scan (until is_tag_name_end) doc name
  ends = rw b.says.long (ap (λ c. name + c) (sym (ap (count_while (until is_tag_name_end)) split ∙ count-to (until is_tag_name_end) (until is_tag_name_end) (λ x u. is_true _ u) n (behind ∷ rest) b.says.plain (count_no (until is_tag_name_end) behind rest e))))

  follows : drop (name + k.len) doc ≡ behind ∷ rest
  follows = rw b.says.long (sym (drop-drop (length n) name doc) ∙ ap (drop (length n)) split ∙ drop-append_seam n (behind ∷ rest))

  prefix-is : k.prefix ≡ prefix_length (piece doc name k.len)
  prefix-is = rw named b.says.parted

  short : k.prefix ≤ k.len
  short = omega (arith, prefix-within n, b.says.parted, b.says.long)

  pub begin-fits : length doc < 2 ^ 64 → Fits w64 (name + k.len)
  begin-fits l = omega (arith, within)

  element-is : k.element ≡ element_of (piece doc (name + k.prefix) (k.len - k.prefix))
  element-is = b.says.is ∙ ap element_of (sym (rw prefix-is (local-range doc name k.len) ∙ ap local_name named))

  pub known-begins : BeginsAt doc name (record { end = name + k.len; prefix = k.prefix; element = k.element })
  known-begins =
      let z : name + k.len - name ≡ k.len = omega arith in
      record { ends = ends; prefix = rw z prefix-is; element = rw z element-is }

-- a space behind it, or '>' where the tag has no attributes
pub space-ends : until is_tag_name_end 32 ≡ false
unfolding is_tag_name_end is_space
space-ends = refl

pub bracket-ends : until is_tag_name_end 62 ≡ false
unfolding is_tag_name_end is_space
bracket-ends = refl

-- the close tag at `at`
module _ (doc : List ℕ) (at : ℕ) {k : UsualName} (b : IsUsual 62 doc (at + 2) k) where
  pub closing-within : at + 2 + k.len + 1 ≤ length doc
  closing-within = within doc (at + 2) b bracket-ends

  pub closing-fits : length doc < 2 ^ 64 → Fits w64 (at + 2 + k.len)
  closing-fits l = omega (arith, closing-within)

  pub closing-next-fits : length doc < 2 ^ 64 → Fits w64 (at + 2 + k.len + 1)
  closing-next-fits l = omega (arith, closing-within)

  pub closing-short : k.prefix ≤ k.len
  closing-short = short doc (at + 2) b bracket-ends

  pub closing-local-fits : length doc < 2 ^ 64 → Fits w64 (at + 2 + k.prefix)
  closing-local-fits l = omega (arith, closing-within, closing-short)

  -- where the name ends, '>' is due, and stands
  pub closing-ends : at + 2 + k.len ≡ scan (until is_tag_name_end) doc (at + 2)
  closing-ends = ends doc (at + 2) b bracket-ends

  pub closing-due : at + 2 + k.len ≡ scan is_space doc (at + 2 + k.len)
  unfolding is_space
  closing-due = sym (ap (λ c. at + 2 + k.len + c) (ap (count_while is_space) (follows doc (at + 2) b bracket-ends) ∙ count_no is_space 62 (rest doc (at + 2) b bracket-ends) refl) ∙ add-zero _)

  pub closing-stands : true ≡ starts_with (ascii ">") (drop (at + 2 + k.len) doc)
  unfolding starts_with
  closing-stands = rw (follows doc (at + 2) b bracket-ends) refl

  pub closing-prefix : k.prefix ≡ prefix_length (piece doc (at + 2) k.len)
  closing-prefix = prefix-is doc (at + 2) b bracket-ends

  pub closing-element : k.element ≡ element_of (piece doc (at + 2 + k.prefix) (k.len - k.prefix))
  closing-element = element-is doc (at + 2) b bracket-ends

pub plain-begins :
    (doc : List ℕ) (name : ℕ) {end : ℕ} → end ≡ scan (until is_tag_name_end) doc name → {prefix : ℕ} → prefix ≡ prefix_length (piece doc name (end - name)) →
    {v : List ℕ} → v ≡ piece doc (name + prefix) (end - name - prefix) → {f : Element} → f ≡ element_of v → BeginsAt doc name (record { end = end; prefix = prefix; element = f })
plain-begins doc name e l q k = record { ends = e; prefix = l; element = k ∙ ap element_of q }

-- ---- the tag that begins so

module _ (doc : List ℕ) (name : ℕ) {b : Beginning} (a : BeginsAt doc name b) where
  pub begun-from : name ≤ b.end
  begun-from = omega (arith, a.ends, scan-from (until is_tag_name_end) doc name)

  pub begun-short : b.prefix ≤ b.end - name
  begun-short = local-within doc name (b.end - name) refl a.prefix

  pub begun-fits : name ≤ length doc → length doc < 2 ^ 64 → Fits w64 (name + b.prefix)
  begun-fits h l = local-fits doc name (b.end - name) refl a.prefix h l
