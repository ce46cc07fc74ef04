-- What a word of an input reads as: a decimal with an optional minus, in the signed 32-bit range.
use Rattle.std.specs.Prelude.{List, [], ◌∷◌, Bool, true, false, cond, ℕ, leb, eqb, ℤ, pos, neg_ℤ}
use Rattle.std.proofs.Math.Option.{Option, none, some}
use Prim.Native.Char.{code}
use Rattle.base.specs.Bytes.{digit, all, value}

-- whether a number with this sign and magnitude is in the signed 32-bit range
unfoldable pub in_signed_range : Bool → ℕ → Bool
in_signed_range negative n = leb n (cond negative 2147483648 2147483647)

unfoldable pub signed : Bool → ℕ → ℤ
signed negative n = cond negative (neg_ℤ (pos n)) (pos n)

unfoldable pub number_in_range : Bool → ℕ → Option ℤ
number_in_range negative n = cond (in_signed_range negative n) (some (signed negative n)) none

-- one or more digits, after a minus or without one
unfoldable pub digits_reading : Bool → List ℕ → Option ℤ
digits_reading negative [] = none
digits_reading negative (b ∷ w) = cond (all digit (b ∷ w)) (number_in_range negative (value 0 (b ∷ w))) none

-- what a word reads as
unfoldable pub reading : List ℕ → Option ℤ
reading [] = none
reading (b ∷ w) = cond (eqb b (code "-")) (digits_reading true w) (digits_reading false (b ∷ w))
