-- Document 01, "Refused texts": the answer to a text, in the paper's order of refusals, and what it leaves in the lent code table.
use Rattle.std.specs.Prelude.{◌≡◌, List, [], ℕ, ◌/◌, ◌≤◌, ◌<◌, ℤ, length}
use Rattle.limits.specs.Limits.{Limits}
use Rattle.base.specs.declared.Refusal.{Refusal}
use Rattle.base.specs.declared.Refusal.TheVariants.{TooLong, TooMuchCode}
use Rattle.base.specs.Answers.{Answer, given, refused, pass}
use Rattle.lexeme.specs.Lexemes.{Name, Placed, lexemes}
use Rattle.sentence.specs.Sentences.{Sen, command}
use Rattle.sentence.specs.Grammar.{whats, Whole, Shallow, Refused}
use Rattle.names.specs.Names.{resolved}
use Rattle.instruction.specs.Instructions.{Instruction, numbers}
use Rattle.tables.specs.Filled.{filled}
use Rattle.meaning.specs.Layout.{program_code, program_need}

-- an accepted text: its Command over cells, and how many cells there are
pub record Accepted : Type 0 where
  pub command : Sen ℕ command
  pub cells : ℕ

-- its code, and its stack need
unfoldable pub code_of_text : Accepted → List Instruction
code_of_text a = program_code a.cells a.command

unfoldable pub need_of : Accepted → ℕ
need_of a = program_need a.cells a.command

-- the names of a Program stand for cells; or the leftmost of 6 and 7
unfoldable pub over_cells : ℕ → Sen Name command → Answer Accepted
over_cells limit m = pass (resolved limit m) λ k. given (record { command = k.what; cells = k.scope.cells })

-- ---- a text's answer

module _ (limits : Limits) (text : List ℕ) where
  -- the text is short enough, and these are its lexemes
  pub record Lexed (ls : List Placed) : Type 0 where
    pub short : length text ≤ limits.text
    pub are : lexemes limits.sizes text ≡ given ls

  -- its lexemes are this Program's, and none stands in too many nestings
  pub record Parsed (m : Sen Name command) : Type 0 where
    pub from : List Placed
    pub lexed : Lexed from
    pub whole : Whole (whats from) m
    pub shallow : Shallow limits.nesting m

  -- its names are declared, and this is the text over cells
  pub record Named (a : Accepted) : Type 0 where
    pub tree : Sen Name command
    pub parsed : Parsed tree
    pub are : over_cells limits.declarations tree ≡ given a

  -- whatever table there is: 1; the leftmost of 2 and 3; of 4 and 5; of 6 and 7; then 8, by the limit of instructions
  pub data Judged : Answer Accepted → Type 0 where
    too_long : limits.text < length text → Judged (refused TooLong 0)
    no_lexemes : {why : Refusal} {p : ℕ} → length text ≤ limits.text → lexemes limits.sizes text ≡ refused why p → Judged (refused why p)
    no_program : {ls : List Placed} {why : Refusal} {p : ℕ} → Lexed ls → Refused limits.nesting ls why p → Judged (refused why p)
    not_named : {m : Sen Name command} {why : Refusal} {p : ℕ} → Parsed m → over_cells limits.declarations m ≡ refused why p → Judged (refused why p)
    too_much_code : {a : Accepted} → Named a → limits.instructions < length (code_of_text a) → Judged (refused TooMuchCode 0)
    accepted : {a : Accepted} → Named a → length (code_of_text a) ≤ limits.instructions → Judged (given a)

  -- with a code table of n numbers, which holds the pairs that fit: 8 too where the code has more
  pub data Compiled (n : ℕ) : Answer Accepted → Type 0 where
    no_code : {why : Refusal} {p : ℕ} → Judged (refused why p) → Compiled n (refused why p)
    no_room : {a : Accepted} → Judged (given a) → n / 2 < length (code_of_text a) → Compiled n (refused TooMuchCode 0)
    fits : {a : Accepted} → Judged (given a) → length (code_of_text a) ≤ n / 2 → Compiled n (given a)

-- the answer that is given, and what is so of it
pub record WithAnswer (Given So : Answer Accepted → Type 0) : Type 0 where
  pub answer : Answer Accepted
  pub is_given : Given answer
  pub so : So answer

-- ---- what the table holds

-- numbers of the table past the code are 0, as is the whole table on refusal
unfoldable pub table_after : ℕ → Answer Accepted → List ℤ
table_after n (given a) = filled n (numbers (code_of_text a))
table_after n (refused why p) = filled n []
