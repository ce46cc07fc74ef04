-- What the pass that measures and the pass that writes promise, by the reader of states.
use Rattle.std.specs.Prelude.{◌≡◌, List, cond, ℕ, ◌≤◌, ltb, ℤ, length, Result}
use Rattle.base.specs.declared.Refusal.TheVariants.{TooMuchCode}
use Rattle.base.specs.Answers as A
use Rattle.base.specs.Answers.{given, refused, pass}
use Rattle.lexeme.specs.Lexemes.{Name, Placed, Sizes, lexemes}
use Rattle.sentence.specs.Sentences.{Sen, command}
use Rattle.sentence.proofs.Reader.{read}
use Rattle.names.specs.Names.{Known, resolved}
use Rattle.meaning.specs.Layout.{program_code}
use Rattle.base.specs.declared.Refused.{Refused}
use Rattle.tables.specs.declared.Counts.{Counts}
use Rattle.tables.specs.inner.Tables.{emit}
use Rattle.compiler.specs.Answers.{answered}
use Rattle.compiler.specs.Compiled.{Accepted, code_of_text, over_cells}

-- code of more instructions than that is too much
unfoldable pub at_most : ℕ → Accepted → A.Answer Accepted
at_most limit a = cond (ltb limit (length (code_of_text a))) (refused TooMuchCode 0) (given a)

-- what the sentences decide: the leftmost of 4 and 5; then of 6 and 7; then 8, by the limit of instructions
unfoldable pub measured : ℕ → ℕ → ℕ → List Placed → A.Answer Accepted
measured nesting declarations instructions ls =
    pass (read nesting ls) λ m.
    pass (over_cells declarations m) (at_most instructions)

-- that, whatever the sizes under which the text has these lexemes, if its literals are numbers
unfoldable pub Measured : ℕ → ℕ → ℕ → List ℕ → Result Counts Refused → Type 0
Measured nesting declarations instructions text r =
    (sizes : Sizes) (ls : List Placed) → sizes.literal ≤ 2147483647 → lexemes sizes text ≡ given ls → r ≡ answered (measured nesting declarations instructions ls)

-- the code of a text that has these cells, written over a table
unfoldable pub Written : ℕ → ℕ → List ℕ → ℕ → List ℤ → List ℤ → Type 0
Written nesting declarations text cells table table' =
    (sizes : Sizes) (ls : List Placed) (m : Sen Name command) (k : Known (Sen ℕ command)) → sizes.literal ≤ 2147483647 → lexemes sizes text ≡ given ls → read nesting ls ≡ given m →
    resolved declarations m ≡ given k → k.scope.cells ≡ cells → table' ≡ emit table 0 (program_code cells k.what)
