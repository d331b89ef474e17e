-- Rules: Limits and refusals. An answer reported as plain numbers.
use Rattle.std.specs.Prelude.{◌≡◌, ℕ}
use Rattle.refusals.specs.Figures.{Answer, number_in, offset_in, place_in, written_in}

-- the answer, as number, offset, place and n
pub record Reports (answer : Answer) (number offset place n : ℕ) : Type 0 where
  pub the_number : number ≡ number_in answer
  pub the_offset : offset ≡ offset_in answer
  pub the_place : place ≡ place_in answer
  pub the_n : n ≡ written_in answer
