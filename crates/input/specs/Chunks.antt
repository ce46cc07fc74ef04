-- What one read leads to, for the contract of a private function.
use Rattle.std.specs.Prelude.{◌≡◌, Bool, not, ◌&&◌, List, ◌++◌, ℕ, ltb, ℤ, length, Result, IfOk}
use Rattle.readings.specs.inner.Rest.{takes, over}
use Rattle.readings.specs.declared.Reader.{Reader}
use Rattle.input.specs.declared.Chunk.{Chunk}

-- the reader r with the numbers l went on by these bytes to the reader e with the numbers k; there may be more unless none came or the readings are over
pub record Went (bytes : List ℕ) (r : Reader) (l : List ℤ) (e : Reader) (k : List ℤ) (more : Bool) : Type 0 where
  pub on : (rest : List ℕ) → takes e k rest ≡ takes r l (bytes ++ rest)
  pub unless : more ≡ ltb 0 (length bytes) && not (over e k)

abbrev pub GoesOn : {E : Type 0} → Result Chunk E → Reader → List ℤ → List ℤ → Type 0
GoesOn came r l k = IfOk came (λ c. (bytes : List ℕ) × Went bytes r l c.reader k c.more)
