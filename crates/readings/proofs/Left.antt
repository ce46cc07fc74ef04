-- What is left of the input: after a byte, and at the end of a word. Assumes nothing.
use Rattle.std.proofs.Common.{◌≡◌, refl, ap, ◌∙◌, List, [], ◌∷◌, Bool, true, false, not, ℕ, suc, arith, ℤ}
use Rattle.std.proofs.Math.Option.{none, some}
use Rattle.std.proofs.lemmas.Bool.Decides.{nat_tests}
use Rattle.base.specs.Bytes.{separator, run}
use Rattle.base.proofs.Runs.{run_yes, run_no}
use Rattle.reading.specs.Reading.{number_in_range, reading}
use Rattle.reading.specs.inner.Words.{word_of, digit_more, word_more}
use Rattle.reading.specs.declared.Phase.{Phase}
use Rattle.reading.specs.declared.Phase.TheVariants.{Between, Minus, Number, Over}
use Rattle.reading.proofs.Words.{word_on, minus_ends, number_ends}
use Rattle.readings.specs.Readings.{other, past, readings}
use Rattle.readings.specs.inner.Rest.{from_a_word, from_within, left}

past_yes : (such : ℕ → Bool) (b : ℕ) (s : List ℕ) → such b ≡ true → past such (b ∷ s) ≡ past such s
unfolding past
past_yes such b s h = rw (run_yes such b s h)

past_no : (such : ℕ → Bool) (b : ℕ) (s : List ℕ) → such b ≡ false → past such (b ∷ s) ≡ b ∷ s
unfolding past
past_no such b s h = rw (run_no such b s h)

-- the readings from the beginning of a word on, where there is room for m past it
abbrev from : ℕ → List ℕ → List ℤ
from m s = from_a_word m (reading (run other s)) (past other s)

pub skip : (m b : ℕ) (s : List ℕ) → separator b ≡ true → readings m (b ∷ s) ≡ readings m s
unfolding readings
skip m b s h = grind (arith, past_yes separator b s h)

over_within : (m : ℕ) (s : List ℕ) → [] ≡ from_within m Over s
unfolding from_within word_of
over_within m s = grind arith

-- the first byte that is no separator
module _ (b : ℕ) (s : List ℕ) (h : separator b ≡ false) where
  is_other : other b ≡ true
  unfolding other
  is_other = ap not h

  within_on : (m : ℕ) (p : Phase) → from_within m (word_more p b) s ≡ from_within m p (b ∷ s)
  unfolding from_within
  within_on m p = grind (arith, run_yes other b s is_other, past_yes other b s is_other, word_on p b (run other s))

  begins : (m : ℕ) → from_within m Between (b ∷ s) ≡ readings m (b ∷ s)
  unfolding from_within word_of readings
  begins m = grind (arith, past_no separator b s h)

  left_number : (m : ℕ) (negative : Bool) (n : ℕ) → left m (digit_more negative n b) s ≡ from_within m (digit_more negative n b) s
  unfolding digit_more left
  left_number m negative n = grind (arith, nat_tests, over_within m s)

  pub left_on : (m : ℕ) (p : Phase) → left m (word_more p b) s ≡ left m p (b ∷ s)
  unfolding left word_more
  left_on m Between = grind (arith, nat_tests, within_on m Between, begins m, left_number m false 0)
  left_on m Minus = left_number m true 0 ∙ within_on m Minus
  left_on m (Number negative n) = left_number m negative n ∙ within_on m (Number negative n)
  left_on m Over = refl

pub separates : (b : ℕ) (s : List ℕ) → separator b ≡ true → run other (b ∷ s) ≡ []
unfolding other
separates b s h = run_no other b s (ap not h)

-- at the end of a word
module _ (s : List ℕ) (ends : run other s ≡ []) where
  pub left_minus : (m : ℕ) → left m Minus s ≡ []
  unfolding left from_within
  left_minus m = grind (arith, ends, minus_ends)

  pub left_none : (m n : ℕ) (negative : Bool) → number_in_range negative n ≡ none → left m (Number negative n) s ≡ []
  unfolding left from_within
  left_none m n negative e = grind (arith, ends, number_ends negative n)

  pub left_some : (m n : ℕ) (negative : Bool) (z : ℤ) → number_in_range negative n ≡ some z → left (suc m) (Number negative n) s ≡ z ∷ readings m s
  unfolding left from_within past
  left_some m n negative z e = rw (ends, number_ends negative n, e)
