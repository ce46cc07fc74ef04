-- What is taken of an input into numbers that were lent.
use Rattle.std.specs.Prelude.{List, ◌++◌, ℕ, ℤ, length, drop}
use Rattle.readings.specs.Readings.{readings}

-- how many readings there are, and the numbers that were lent
pub record Taken : Type 0 where
  pub count : ℕ
  pub numbers : List ℤ

-- an input s, taken into the numbers l: its readings, as many as there is room for, stand first and are counted; what stood past them is as it was
unfoldable pub taken_in : List ℤ → List ℕ → Taken
taken_in l s =
    let zs = readings (length l) s in
    record { count = length zs; numbers = zs ++ drop (length zs) l }
