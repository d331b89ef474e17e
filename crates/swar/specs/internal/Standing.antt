-- Comparing what stands at a place with a literal that is given by its numbers.
use Rattle.std.specs.Prelude.{◌≡◌, Bool, true, false, List, ℕ, ◌+◌, ◌^◌, ◌≤◌, ◌<◌, T, length, take, drop}
use Rattle.std.proofs.Math.Pow.{are_bytes}
use Rattle.texts.specs.Text.{starts_with}
use Rattle.texts.specs.Scan.{scan, until, is}
use Rattle.swar.specs.Word.{word_of}

-- a text of fewer than eight bytes: 256 to the power of its length, and its number
pub record ShortText (text : List ℕ) (modulus front : ℕ) : Type 0 where
  pub few : length text < 8
  pub power : modulus ≡ 256 ^ length text
  pub number : front ≡ word_of text
  pub bytes : T (are_bytes text)

-- a longer one: the number of its first eight bytes, and the others as a short one
pub record LongText (text : List ℕ) (front modulus back : ℕ) : Type 0 where
  pub eight : length (take 8 text) ≡ 8
  pub number : front ≡ word_of (take 8 text)
  pub bytes : T (are_bytes (take 8 text))
  pub rest : ShortText (drop 8 text) modulus back

-- r is whether the text with these numbers stands at i
pub record StandsShort (s : List ℕ) (i modulus front : ℕ) (r : Bool) : Type 0 where
  pub is : (text : List ℕ) → ShortText text modulus front → r ≡ starts_with text (drop i s)

-- the same of a longer text
pub record StandsLong (s : List ℕ) (i front modulus back : ℕ) (r : Bool) : Type 0 where
  pub is : (text : List ℕ) → LongText text front modulus back → r ≡ starts_with text (drop i s)

-- if r, none of the n bytes from i on is x: the first x from i on is the first behind them
abbrev pub LacksByte : ℕ → List ℕ → ℕ → ℕ → Bool → Type 0
LacksByte x s i n r = r ≡ true → scan (until (is x)) s (i + n) ≡ scan (until (is x)) s i

-- the text stands at no place from `from` on that is before `to`
pub record Lacks (text s : List ℕ) (from to : ℕ) : Type 0 where
  pub forward : from ≤ to
  pub none : (k : ℕ) → from ≤ k → k < to → starts_with text (drop k s) ≡ false
