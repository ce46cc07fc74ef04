-- What the end of a word makes of a reader and the numbers that it was lent.
use Rattle.std.specs.Prelude.{List, cond, ℕ, ◌+◌, ltb, ℤ, length, set}
use Rattle.std.proofs.Math.Option.{Option, none, some}
use Rattle.reading.specs.Reading.{number_in_range}
use Rattle.reading.specs.declared.Phase.{Phase}
use Rattle.reading.specs.declared.Phase.TheVariants.{Between, Minus, Number, Over}
use Rattle.readings.specs.declared.Reader.{Reader}

pub record Both : Type 0 where
  pub reader : Reader
  pub numbers : List ℤ

abbrev pub both : Phase → ℕ → List ℤ → Both
both p k l = record { reader = record { phase = p; count = k }; numbers = l }

-- a reading is stored, if there is room
unfoldable pub stored : Option ℤ → ℕ → List ℤ → Both
stored none k l = both Over k l
stored (some z) k l = cond (ltb k (length l)) (both Between (k + 1) (set l k z)) (both Over k l)

-- a word ends, by a separator or by the end of the input
unfoldable pub ended_at : Phase → ℕ → List ℤ → Both
ended_at Between k l = both Between k l
ended_at Minus k l = both Over k l
ended_at (Number negative n) k l = stored (number_in_range negative n) k l
ended_at Over k l = both Over k l

unfoldable pub ended : Both → Both
ended h = ended_at h.reader.phase h.reader.count h.numbers
