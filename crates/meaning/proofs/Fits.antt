-- What a sentence over cells is run with: enough cells, and its text.
use mathlib.Core.Path.{◌≡◌}
use mathlib.Core.List.{List}
use mathlib.Core.Bool.{true}
use Prim.Native.Nat.{ℕ, ◌<◌}
use Rattle.lexeme.specs.Lexemes.{Quoted}
use Rattle.sentence.specs.Sentences.{Kind, Sen}
use Rattle.sentence.proofs.Parts.{Each}
use Rattle.rules.specs.Machine.{string, closed}

-- a string stands in the text at its place
abbrev pub InText : List ℕ → Quoted → Type 0
InText text q = (closed text q.place ≡ true) × (string text q.place ≡ q.inside)

-- each cell of a sentence is one of d, and each of its strings stands in the text
abbrev pub Fits : List ℕ → ℕ → {k : Kind} → Sen ℕ k → Type 0
Fits text d x = Each (λ c. c < d) (InText text) x
