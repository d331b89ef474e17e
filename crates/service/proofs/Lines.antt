-- Laws of a refusal's line: it is shorter than the program's output.
use Rattle.std.proofs.Common.{◌≡◌, refl, ap, ◌∙◌, List, ◌++◌, ℕ, ◌+◌, ◌≤◌, ◌<◌, ◌^◌, arith, length, take, drop, length-append, take_at, le-ltb, Ok}
use Rattle.std.specs.Result.{result_unwrap_or}
use Rattle.texts.specs.Text.{ascii, piece}
use Rattle.refusals.specs.Figures.{Answer, number_of, offset_of, place_of}
use Rattle.refusals.specs.declared.Refusal.{Refusal}
use Rattle.printing.specs.Decimal.{decimal}
use Rattle.printing.specs.Output.{finished, output_after, Finishes}
use Rattle.xmltoproto.proofs.Lengths.{digits-most}
use Rattle.service.specs.Printed.{figures_line, refusal_line}

-- a number of 64 bits has at most 20 digits
decimal-most : (n : ℕ) → n < 2 ^ 64 → length (decimal n) ≤ 20
decimal-most n h = digits-most 19 n (omega arith)

joined : (x y : List ℕ) (m n : ℕ) → length x ≤ m → length y ≤ n → {k : ℕ} → m + n ≤ k → length (x ++ y) ≤ k
joined x y m n p q h = omega (arith, length-append x y, p, q, h)

line-most : (a b c : ℕ) → a < 2 ^ 64 → b < 2 ^ 64 → c < 2 ^ 64 → length (figures_line a b c) ≤ 71
line-most a b c p q r =
    let t = ascii "\t" in
    let to-a = ascii "refused\t" ++ decimal a in
    let to-b = to-a ++ t ++ decimal b in
    let first : length to-a ≤ 28 = joined (ascii "refused\t") (decimal a) 8 20 (omega arith) (decimal-most a p) (omega arith) in
    let second : length to-b ≤ 49 = joined (to-a ++ t) (decimal b) 29 20 (joined to-a t 28 1 first (omega arith) (omega arith)) (decimal-most b q) (omega arith) in
    let third : length (to-b ++ t ++ decimal c) ≤ 70 = joined (to-b ++ t) (decimal c) 50 20 (joined to-b t 49 1 second (omega arith) (omega arith)) (decimal-most c r) (omega arith) in
    joined (to-b ++ t ++ decimal c) (ascii "\n") 70 1 third (omega arith) (omega arith)

-- a text that fits stands at the start of the output once it is printed
finished-front : (text out : List ℕ) {out' : List ℕ} {r : Answer} → length text ≤ length out → Finishes text out out' r → piece out' 0 (result_unwrap_or r 0) ≡ text
unfolding finished output_after
finished-front text out {out'} {r} h f =
    let e : r ≡ Ok (length text) = f.is ∙ rw (le-ltb (length out) (length text) h) refl in
    let o : out' ≡ text ++ drop (length text) out = f.output ∙ ap (λ x. output_after x text out) e in
    ap (λ x. piece out' 0 (result_unwrap_or x 0)) e ∙ ap (take (length text)) o ∙ take_at text (drop (length text) out) (length text) refl

pub line-printed : (q : Refusal) (a b c : ℕ) → a ≡ number_of q → b ≡ offset_of q → c ≡ place_of q → a < 2 ^ 64 → b < 2 ^ 64 → c < 2 ^ 64
    → (out : List ℕ) → length out ≡ 65536 → {out' : List ℕ} {r : Answer} → Finishes (figures_line a b c) out out' r
    → (n : ℕ) → n ≡ result_unwrap_or r 0 → {w : List ℕ} → w ≡ piece out' 0 n → w ≡ refusal_line q
line-printed q a b c ea eb ec la lb lc out lo {out'} {r} f n en {w} ew =
    ew ∙ ap (λ k. piece out' 0 k) en ∙ finished-front (figures_line a b c) out (omega (arith, line-most a b c la lb lc, lo)) f ∙ rw (ea, eb, ec) refl
