-- Document 01, "How a run ends": signed 32-bit numbers, what the operators and relations give, and how a number is printed.
use Rattle.std.specs.Prelude.{List, [], ◌∷◌, ◌++◌, Bool, true, false, cond, ◌&&◌, ℕ, zero, suc, ◌+◌, ◌/◌, ◌%◌, ltb, eqb, ℤ, pos, negsuc, ◌+ℤ◌, ◌-ℤ◌, ◌*ℤ◌}
use Rattle.std.specs.Int.Signed.{mag, lt_z, le_z, quot_z}
use Rattle.endings.specs.Endings.{outside_range, division_by_0}

-- a value, or the ending in its place
pub data Result : Type 0 where
  value : ℤ → Result
  ends : ℕ → Result

-- from -2,147,483,648 to 2,147,483,647 (`mag` of a number below zero is one less than its distance from zero)
unfoldable pub in_range : ℤ → Result
in_range z = cond (ltb (mag z) 2147483648) (value z) (ends outside_range)

-- 0 is false, all else is true
unfoldable pub is_false : ℤ → Bool
is_false (pos n) = eqb n 0
is_false (negsuc n) = false

-- relations give 1 or 0
unfoldable pub truth : Bool → ℤ
truth true = pos 1
truth false = pos 0

pub data TwoSidedOperation : Type 0 where
  plus minus times divide equals smaller greater : TwoSidedOperation

-- division drops the fraction toward zero
unfoldable pub calculate : TwoSidedOperation → ℤ → ℤ → Result
calculate plus a b = in_range (a +ℤ b)
calculate minus a b = in_range (a -ℤ b)
calculate times a b = in_range (a *ℤ b)
calculate divide a b = cond (is_false b) (ends division_by_0) (in_range (quot_z a b))
calculate equals a b = value (truth (le_z a b && le_z b a))
calculate smaller a b = value (truth (lt_z a b))
calculate greater a b = value (truth (lt_z b a))

-- a number that is no condition: 0 gives 1, all else gives 0
unfoldable pub negation : ℤ → ℤ
negation v = truth (is_false v)

-- the digits of n, with more fuel than digits
unfoldable pub digits : ℕ → ℕ → List ℕ
digits zero n = []
digits (suc fuel) n = elim (ltb n 10) [ true ↦ (48 + n) ∷ [] | false ↦ digits fuel (n / 10) ++ (48 + n % 10) ∷ [] ]

-- the shortest decimal, with `-` below zero
unfoldable pub decimal : ℤ → List ℕ
decimal (pos n) = digits (suc n) n
decimal (negsuc n) = 45 ∷ digits (suc (suc n)) (suc n)
