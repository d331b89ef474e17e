-- Laws of comparing the document with a known name, eight bytes at once.
use Rattle.std.proofs.Common.{◌≡◌, refl, sym, ◌∙◌, Bool, true, List, ℕ, ◌<◌, ◌+◌, ◌^◌, arith, T, eqb, eqb-true, ltb, leb, length, lit<, leb→le, take, drop}
use Rattle.std.proofs.Math.Pow.{are_bytes}
use Rattle.texts.specs.Choice.{◌and◌}
use Rattle.texts.proofs.Choosing.{is_true, and_left, and_right}
use Rattle.texts.specs.Text.{ascii, starts_with}
use Rattle.swar.specs.Word.{word_of}
use Rattle.swar.specs.internal.Standing.{ShortText, LongText, StandsShort, StandsLong}
use Rattle.swar.proofs.Standing.{power-some}
use Rattle.tags.specs.internal.Known.{known_name, known_text, IsKnown, KnownShort, KnownLong, KnownText}

-- ---- the comparison with one name

module _ (doc : List ℕ) (at : ℕ) {code skip : ℕ} {b : Bool} where
  pub known-short : {modulus front : ℕ} → StandsShort doc at modulus front b → KnownShort code skip modulus front → b ≡ true → IsKnown doc at (record { code = code; skip = skip })
  known-short s t e = record { above = t.above; below = t.below; stands = sym (s.is (known_text code) t.text) ∙ e; ahead = t.ahead }

  pub known-long : {front modulus back : ℕ} → StandsLong doc at front modulus back b → KnownLong code skip front modulus back → b ≡ true → IsKnown doc at (record { code = code; skip = skip })
  known-long s t e = record { above = t.above; below = t.below; stands = sym (s.is (known_text code) t.text) ∙ e; ahead = t.ahead }

  pub known-whole : {text : List ℕ} → b ≡ starts_with text (drop at doc) → KnownText code skip text → b ≡ true → IsKnown doc at (record { code = code; skip = skip })
  known-whole e t v = record { above = t.above; below = t.below; stands = rw t.text at (sym e ∙ v); ahead = t.ahead }

pub is-encoding : KnownText 7 20 (ascii "characterEncoding=\"")
is-encoding = record { above = lit< tt; below = lit< tt; ahead = refl; text = refl }

pub is-semanticversion : KnownText 17 18 (ascii "semanticVersion=\"")
is-semanticversion = record { above = lit< tt; below = lit< tt; ahead = refl; text = refl }

-- ---- a known text by its numbers, which a computation tests

-- the numbers are those of the text
abbrev pub short-fits : List ℕ → ℕ → ℕ → Bool
short-fits text modulus front = ltb (length text) 8 and eqb modulus (256 ^ length text) and eqb front (word_of text) and are_bytes text

abbrev pub long-fits : List ℕ → ℕ → ℕ → ℕ → Bool
long-fits text front modulus back = eqb (length (take 8 text)) 8 and eqb front (word_of (take 8 text)) and are_bytes (take 8 text) and short-fits (drop 8 text) modulus back

pub short-text : (text : List ℕ) (modulus front : ℕ) → T (short-fits text modulus front) → ShortText text modulus front
short-text text modulus front t =
    let few = ltb (length text) 8 in
    let power = eqb modulus (256 ^ length text) in
    let number = eqb front (word_of text) in
    let u = and_right few _ t in
    let v = and_right power _ u in
    record {
      few = lit< (and_left few _ t);
      power = eqb-true modulus _ (is_true power (and_left power _ u));
      number = eqb-true front _ (is_true number (and_left number _ v));
      bytes = and_right number _ v;
    }

pub long-text : (text : List ℕ) (front modulus back : ℕ) → T (long-fits text front modulus back) → LongText text front modulus back
long-text text front modulus back t =
    let eight = eqb (length (take 8 text)) 8 in
    let number = eqb front (word_of (take 8 text)) in
    let bytes = are_bytes (take 8 text) in
    let u = and_right eight _ t in
    let v = and_right number _ u in
    record {
      eight = eqb-true _ 8 (is_true eight (and_left eight _ t));
      number = eqb-true front _ (is_true number (and_left number _ u));
      bytes = and_left bytes _ v;
      rest = short-text (drop 8 text) modulus back (and_right bytes _ v);
    }

-- the code is one, and the skip is its name's
abbrev known-code : ℕ → ℕ → Bool
known-code code skip = leb 1 code and leb (code + 1) 18 and eqb skip (length (known_name code) + 3)

module _ (code skip : ℕ) (t : T (known-code code skip)) where
  above : 0 < code
  above = leb→le 1 code (and_left (leb 1 code) _ t)

  below : code < 18
  below = omega (arith, leb→le (code + 1) 18 (and_left (leb (code + 1) 18) _ (and_right (leb 1 code) _ t)))

  ahead : skip ≡ length (known_name code) + 3
  ahead = eqb-true skip _ (is_true _ (and_right (leb (code + 1) 18) _ (and_right (leb 1 code) _ t)))

module _ {code skip : ℕ} where
  pub is-short : {modulus front : ℕ} → T (known-code code skip and short-fits (known_text code) modulus front) → KnownShort code skip modulus front
  is-short t =
      let c = and_left (known-code code skip) _ t in
      record { above = above code skip c; below = below code skip c; ahead = ahead code skip c; text = short-text (known_text code) _ _ (and_right (known-code code skip) _ t) }

  pub is-long : {front modulus back : ℕ} → T (known-code code skip and long-fits (known_text code) front modulus back) → KnownLong code skip front modulus back
  is-long t =
      let c = and_left (known-code code skip) _ t in
      record { above = above code skip c; below = below code skip c; ahead = ahead code skip c; text = long-text (known_text code) _ _ _ (and_right (known-code code skip) _ t) }

-- a power of 256 is not 0
module _ {code skip modulus : ℕ} where
  pub short-power : {front : ℕ} → KnownShort code skip modulus front → 0 < modulus
  short-power t = power-some t.text

  pub long-power : {front back : ℕ} → KnownLong code skip front modulus back → 0 < modulus
  long-power t = power-some t.text.rest
