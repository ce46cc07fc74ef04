-- The lines that the programs write: document 01, "Bench examples" and "What the kit holds". Each ends with byte 10.
use Rattle.std.specs.Prelude.{List, [], ◌∷◌, ℕ}
use Rattle.base.specs.declared.Refusal.{Refusal}
use Rattle.base.specs.Answers.{number}
use Rattle.base.specs.Bytes.{bytes}
use Rattle.lines.specs.Forms.{filled}

abbrev pub line_end : List ℕ
line_end = 10 ∷ []

-- `refused N P`, by its number: a tidy copy has a refusal of its own
unfoldable pub refusal_line : ℕ → ℕ → List ℕ
refusal_line number place = filled (bytes "refused # #\n") (number ∷ place ∷ [])

unfoldable pub refused_line : Refusal → ℕ → List ℕ
refused_line why place = refusal_line (number why) place

-- `ending E steps S`
unfoldable pub ending_line : ℕ → ℕ → List ℕ
ending_line ending steps = filled (bytes "ending # steps #\n") (ending ∷ steps ∷ [])

-- `accepted I C N`
unfoldable pub accepted_line : ℕ → ℕ → ℕ → List ℕ
accepted_line instructions cells need = filled (bytes "accepted # # #\n") (instructions ∷ cells ∷ need ∷ [])
