-- What a reader takes of the rest of an input. The paper's definition is `taken_in`: the contracts of `start`, `more` and `finish` lead from it to the result, whatever `takes` is
-- (`whole` in proofs/Whole.antt), so nothing of this file need be believed.
use Rattle.std.specs.Prelude.{List, [], ◌∷◌, Bool, true, false, ◌||◌, ℕ, zero, suc, ◌+◌, ◌-◌, leb, ℤ, length}
use Rattle.std.proofs.Math.Option.{Option, none, some}
use Rattle.std.proofs.lemmas.List.Edits.{sets}
use Rattle.base.specs.Bytes.{run}
use Rattle.reading.specs.inner.Words.{word_of}
use Rattle.reading.specs.declared.Phase.{Phase}
use Rattle.reading.specs.declared.Phase.TheVariants.{Between, Minus, Number, Over}
use Rattle.readings.specs.Readings.{other, past, readings}
use Rattle.readings.specs.Taken.{Taken}
use Rattle.readings.specs.declared.Reader.{Reader}

-- the readings from a word on that reads as o, where s follows it and there is room for m more
abbrev pub from_a_word : ℕ → Option ℤ → List ℕ → List ℤ
from_a_word m o s = elim o [ none ↦ [] | some z ↦ z ∷ readings m s ]

-- the readings from within a word on, where s is the rest of the input and there is room for so many
unfoldable pub from_within : ℕ → Phase → List ℕ → List ℤ
from_within zero p s = []
from_within (suc m) p s = from_a_word m (word_of p (run other s)) (past other s)

-- the readings that are left
unfoldable pub left : ℕ → Phase → List ℕ → List ℤ
left m Between s = readings m s
left m Minus s = from_within m Minus s
left m (Number negative n) s = from_within m (Number negative n) s
left m Over s = []

-- the readings zs are stored in the numbers l after the k that stand there
abbrev pub stored_after : ℕ → List ℤ → List ℤ → Taken
stored_after k l zs = record { count = k + length zs; numbers = sets l k zs }

-- what is taken in all by a reader that has stored its readings in the numbers l, where s is all that follows
unfoldable pub takes : Reader → List ℤ → List ℕ → Taken
takes r l s = stored_after r.count l (left (length l - r.count) r.phase s)

-- whether something came that is no reading
unfoldable pub stopped : Phase → Bool
stopped Between = false
stopped Minus = false
stopped (Number negative n) = false
stopped Over = true

-- whether the readings are over, whatever follows: something came that is none, or the numbers are full
unfoldable pub over : Reader → List ℤ → Bool
over r l = stopped r.phase || leb (length l) r.count
