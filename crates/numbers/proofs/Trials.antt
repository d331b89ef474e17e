-- Trials of the definition of a number: absent and empty texts, signs, leading zeros, and the largest value.
use Rattle.std.proofs.Common.{◌≡◌, refl, None, Some}
use Rattle.texts.specs.Text.{ascii}
use Rattle.numbers.specs.Numbers.{is_digit, all_digits, value_from, bounded_from, digits_of, unsigned, number_of}

pub trials :
    (number_of None ≡ Some 0)
    × (number_of (Some (ascii "+7")) ≡ Some 7)
    × (number_of (Some (ascii "4294967296")) ≡ None)
    × (number_of (Some (ascii "")) ≡ Some 0)
    × (number_of (Some (ascii "+")) ≡ None)
    × (number_of (Some (ascii "-0")) ≡ None)
    × (number_of (Some (ascii " 7")) ≡ None)
    × (number_of (Some (ascii "007")) ≡ Some 7)
    × (number_of (Some (ascii "4294967295")) ≡ Some 4294967295)
unfolding is_digit all_digits value_from bounded_from digits_of unsigned number_of
trials = (refl, refl, refl, refl, refl, refl, refl, refl, refl)
