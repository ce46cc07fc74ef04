-- Where a reader stands that goes on from chunk to chunk. Assumes nothing.
use Rattle.std.proofs.Common.{Bool, List, ◌++◌, ◌≡◌, ◌∙◌, ℕ, append_assoc, ℤ}
use Rattle.readings.specs.inner.Rest.{takes}
use Rattle.readings.specs.Taken.{taken_in}
use Rattle.readings.specs.declared.Reader.{Reader}
use Rattle.input.specs.Chunks.{Went}

-- the reader r with the numbers k stands where some input was seen that is taken into the numbers l
abbrev pub Seen : Reader → List ℤ → List ℤ → Type 0
Seen r k l = (seen : List ℕ) × ((rest : List ℕ) → takes r k rest ≡ taken_in l (seen ++ rest))

pub further : (r e : Reader) (k m l : List ℤ) (more : Bool) → (bytes : List ℕ) × Went bytes r k e m more → Seen r k l → Seen e m l
further r e k m l more by so_far = (so_far.0 ++ by.0, λ rest. rw append_assoc (by.1.on rest ∙ so_far.1 (by.0 ++ rest)))
