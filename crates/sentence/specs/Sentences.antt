-- Document 01, "Sentences": the constructs as trees, how each is spelled, and the nestings that it opens.
use Rattle.std.specs.Prelude.{List, [], ◌∷◌, ◌++◌, ℕ, suc}
use Rattle.lexeme.specs.Lexemes.{Name, Quoted, Lexeme, lit, name, string, fixed}
use Rattle.lexeme.specs.Lexemes.{plus_sign, minus_sign, star, slash, less_sign, greater_sign, equals_sign, open_round, close_round, open_brace, close_brace, becomes, DO, ERROR, IF, INT, NOT, PRINTI, PRINTLNS, PRINTS, READ, THEN, WHILE}

-- the signs, `*` and `/`, and the relations
pub data Sign : Type 0 where
  plus minus : Sign

pub data Mul : Type 0 where
  times over : Mul

pub data Rel : Type 0 where
  less greater equal : Rel

unfoldable pub sign : Sign → Lexeme
sign plus = fixed plus_sign
sign minus = fixed minus_sign

unfoldable pub mul : Mul → Lexeme
mul times = fixed star
mul over = fixed slash

unfoldable pub rel : Rel → Lexeme
rel less = fixed less_sign
rel greater = fixed greater_sign
rel equal = fixed equals_sign

-- `commands` is the inside of a block
pub data Kind : Type 0 where
  factor term expression condition command commands : Kind

-- A constructor for each alternative of the paper's table. Operators of one level group to the left: the left part of a term or an expression is
-- one of its own kind. Var is what stands for a variable: its name as written, or later its cell.
pub data Sen (Var : Type 0) : Kind → Type 0 where
  literal : ℕ → Sen Var factor
  variable : Var → Sen Var factor
  bracket : Sen Var expression → Sen Var factor
  first : Sen Var factor → Sen Var term
  multiply : Sen Var term → Mul → Sen Var factor → Sen Var term
  unsigned : Sen Var term → Sen Var expression
  signed : Sign → Sen Var term → Sen Var expression
  add : Sen Var expression → Sign → Sen Var term → Sen Var expression
  negated : Sen Var condition → Sen Var condition
  compare : Sen Var expression → Rel → Sen Var expression → Sen Var condition
  print : Sen Var expression → Sen Var command
  print_line : Quoted → Sen Var command
  print_string : Quoted → Sen Var command
  declare : Var → Sen Var command
  input : Var → Sen Var command
  assign : Var → Sen Var expression → Sen Var command
  error : Sen Var command
  while : Sen Var condition → Sen Var command → Sen Var command
  when : Sen Var condition → Sen Var command → Sen Var command
  block : Sen Var commands → Sen Var command
  single : Sen Var command → Sen Var commands
  then : Sen Var commands → Sen Var command → Sen Var commands

-- its parts, in their order
unfoldable pub spell : {k : Kind} → Sen Name k → List Lexeme
spell (literal n) = lit n ∷ []
spell (variable x) = name x ∷ []
spell (bracket e) = fixed open_round ∷ (spell e ++ fixed close_round ∷ [])
spell (first f) = spell f
spell (multiply t o f) = spell t ++ mul o ∷ spell f
spell (unsigned t) = spell t
spell (signed s t) = sign s ∷ spell t
spell (add e s t) = spell e ++ sign s ∷ spell t
spell (negated c) = fixed NOT ∷ spell c
spell (compare d r e) = spell d ++ rel r ∷ spell e
spell (print e) = fixed PRINTI ∷ spell e
spell (print_line q) = fixed PRINTLNS ∷ string q ∷ []
spell (print_string q) = fixed PRINTS ∷ string q ∷ []
spell (declare x) = fixed INT ∷ name x ∷ []
spell (input x) = fixed READ ∷ name x ∷ []
spell (assign x e) = name x ∷ fixed becomes ∷ spell e
spell error = fixed ERROR ∷ []
spell (while c m) = fixed WHILE ∷ (spell c ++ fixed DO ∷ spell m)
spell (when c m) = fixed IF ∷ (spell c ++ fixed THEN ∷ spell m)
spell (block ms) = fixed open_brace ∷ (spell ms ++ fixed close_brace ∷ [])
spell (single m) = spell m
spell (then ms m) = spell ms ++ spell m

-- Program: DO, one Command
unfoldable pub program : Sen Name command → List Lexeme
program m = fixed DO ∷ spell m

-- For each lexeme of a sentence, how many nestings it stands in, where d are open around the sentence:
-- each of `{`, IF, WHILE, NOT and `(` opens one until its construct ends.
unfoldable pub nestings : {k : Kind} → ℕ → Sen Name k → List ℕ
nestings d (literal n) = d ∷ []
nestings d (variable x) = d ∷ []
nestings d (bracket e) = suc d ∷ (nestings (suc d) e ++ suc d ∷ [])
nestings d (first f) = nestings d f
nestings d (multiply t o f) = nestings d t ++ d ∷ nestings d f
nestings d (unsigned t) = nestings d t
nestings d (signed s t) = d ∷ nestings d t
nestings d (add e s t) = nestings d e ++ d ∷ nestings d t
nestings d (negated c) = suc d ∷ nestings (suc d) c
nestings d (compare l r e) = nestings d l ++ d ∷ nestings d e
nestings d (print e) = d ∷ nestings d e
nestings d (print_line q) = d ∷ d ∷ []
nestings d (print_string q) = d ∷ d ∷ []
nestings d (declare x) = d ∷ d ∷ []
nestings d (input x) = d ∷ d ∷ []
nestings d (assign x e) = d ∷ d ∷ nestings d e
nestings d error = d ∷ []
nestings d (while c m) = suc d ∷ (nestings (suc d) c ++ suc d ∷ nestings (suc d) m)
nestings d (when c m) = suc d ∷ (nestings (suc d) c ++ suc d ∷ nestings (suc d) m)
nestings d (block ms) = suc d ∷ (nestings (suc d) ms ++ suc d ∷ [])
nestings d (single m) = nestings d m
nestings d (then ms m) = nestings d ms ++ nestings d m

-- the program's own DO opens nothing
unfoldable pub program_nestings : Sen Name command → List ℕ
program_nestings m = 0 ∷ nestings 0 m
