-- What a phase makes of the rest of its word: after one byte more, and at its end. Assumes nothing.
use Rattle.std.proofs.Common.{◌≡◌, refl, Bool, true, false, ℕ, List, [], ◌∷◌, arith}
use Rattle.std.proofs.Math.Option.{none}
use Rattle.std.proofs.lemmas.Bool.Decides.{nat_tests}
use Rattle.base.specs.Bytes.{all, value}
use Rattle.base.proofs.Words.{value_grows}
use Rattle.reading.specs.Reading.{in_signed_range, number_in_range, digits_reading, reading}
use Rattle.reading.specs.inner.Words.{word_of, digit_more, word_more}
use Rattle.reading.specs.declared.Phase.{Phase}
use Rattle.reading.specs.declared.Phase.TheVariants.{Between, Minus, Number, Over}

-- a number that is out of range stays so
out_of_range : (negative : Bool) (n : ℕ) (w : List ℕ) → in_signed_range negative n ≡ false → number_in_range negative (value n w) ≡ none
unfolding number_in_range in_signed_range
out_of_range true n w e = grind (arith, nat_tests, e, value_grows n w)
out_of_range false n w e = grind (arith, nat_tests, e, value_grows n w)

number_on : (negative : Bool) (n b : ℕ) (w : List ℕ) → word_of (digit_more negative n b) w ≡ word_of (Number negative n) (b ∷ w)
unfolding word_of digit_more all value
number_on negative n b w = grind (arith, nat_tests, out_of_range)

pub word_on : (p : Phase) (b : ℕ) (w : List ℕ) → word_of (word_more p b) w ≡ word_of p (b ∷ w)
unfolding word_of word_more digits_reading reading
word_on Between b w = grind (arith, nat_tests, number_on false 0 b w)
word_on Minus b w = number_on true 0 b w
word_on (Number negative n) b w = number_on negative n b w
word_on Over b w = refl

-- ---- at the end of a word

-- a minus alone is no number
pub minus_ends : word_of Minus [] ≡ none
unfolding word_of digits_reading
minus_ends = refl

pub number_ends : (negative : Bool) (n : ℕ) → word_of (Number negative n) [] ≡ number_in_range negative n
unfolding word_of all value
number_ends negative n = refl
