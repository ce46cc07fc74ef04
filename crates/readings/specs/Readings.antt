-- The readings of an input: what its words read as (`reading`), between separators, up to the first thing that reads as none.
use Rattle.std.specs.Prelude.{List, [], ◌∷◌, Bool, not, ℕ, zero, suc, ℤ, length, drop}
use Rattle.std.proofs.Math.Option.{none, some}
use Rattle.base.specs.Bytes.{separator, run}
use Rattle.reading.specs.Reading.{reading}

-- any byte but a separator
unfoldable pub other : ℕ → Bool
other b = not (separator b)

-- what follows the longest run of such bytes at the beginning of s
unfoldable pub past : (ℕ → Bool) → List ℕ → List ℕ
past such s = drop (length (run such s)) s

-- the first n readings of s, or all where there are fewer
unfoldable pub readings : ℕ → List ℕ → List ℤ
readings zero s = []
readings (suc n) s =
    let rest = past separator s in
    elim (reading (run other rest)) [ none ↦ [] | some z ↦ z ∷ readings n (past other rest) ]
