-- Document 01, "Sentences" and "Refused texts": what it is for lexemes to be a Program and to begin one, and refusals 4 and 5.
use Rattle.std.specs.Prelude.{◌≡◌, List, [], ◌∷◌, ◌++◌, map, ℕ, ◌<◌, ◌≤◌, length, get_or}
use Rattle.base.specs.declared.Refusal.{Refusal}
use Rattle.base.specs.declared.Refusal.TheVariants.{NoProgram, TooDeep}
use Rattle.lexeme.specs.Lexemes.{Name, Lexeme, fixed, end, Placed}
use Rattle.sentence.specs.Sentences.{Sen, command, program, program_nestings}

-- these lexemes, with the end, are one Program
unfoldable pub Whole : List Lexeme → Sen Name command → Type 0
Whole ls m = program m ++ fixed end ∷ [] ≡ ls

-- some Program begins with these lexemes
unfoldable pub Begins : List Lexeme → Type 0
Begins ls = (more : List Lexeme) × (m : Sen Name command) × Whole (ls ++ more) m

-- some Program begins with these lexemes and then this one, which stands in more nestings than the limit
unfoldable pub StandsTooDeep : ℕ → List Lexeme → Lexeme → Type 0
StandsTooDeep limit ls l = (more : List Lexeme) × (m : Sen Name command) × Whole (ls ++ l ∷ more) m × limit < get_or (program_nestings m) (length ls) 0

-- what is wrong with a lexeme after those before it: refusal 4 or refusal 5
pub data Fault (limit : ℕ) (before : List Lexeme) (l : Lexeme) : Refusal → Type 0 where
  no_program : (Begins (before ++ l ∷ []) → ⊥) → Fault limit before l NoProgram
  too_deep : StandsTooDeep limit before l → Fault limit before l TooDeep

-- nothing is wrong with any of the lexemes ls, after those before
unfoldable pub Faultless : ℕ → List Lexeme → Type 0
Faultless limit ls = (before after : List Lexeme) (l : Lexeme) (why : Refusal) → before ++ l ∷ after ≡ ls → Fault limit before l why → ⊥

-- each lexeme of the Program stands in at most so many nestings
unfoldable pub Shallow : ℕ → Sen Name command → Type 0
Shallow limit m = (i : ℕ) → get_or (program_nestings m) i 0 ≤ limit

-- the lexemes without their places
unfoldable pub whats : List Placed → List Lexeme
whats ls = map (λ (l : Placed). l.what) ls

-- the leftmost fault of a text's lexemes is this one, at the place p
pub record Refused (limit : ℕ) (ls : List Placed) (why : Refusal) (p : ℕ) : Type 0 where
  pub before : List Placed
  pub at : Placed
  pub after : List Placed
  pub split : before ++ at ∷ after ≡ ls
  pub place : at.place ≡ p
  pub fault : Fault limit (whats before) at.what why
  pub leftmost : Faultless limit (whats before)
