-- What is received of an input. No contract can say which bytes a read brings, so this says that there is such an input.
use Rattle.std.specs.Prelude.{◌≡◌, List, ℕ, ℤ, Result, IfOk}
use Rattle.readings.specs.Taken.{taken_in}

-- the numbers l became k: they hold the readings of some input, which are counted, and what stood past them
abbrev pub AreReadings : ℕ → List ℤ → List ℤ → Type 0
AreReadings n l k = (input : List ℕ) × (record { count = n; numbers = k } ≡ taken_in l input)

abbrev pub Receives : {E : Type 0} → Result ℕ E → List ℤ → List ℤ → Type 0
Receives received l k = IfOk received (λ n. AreReadings n l k)
