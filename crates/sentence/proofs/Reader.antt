-- The reader of sentences: a state, changed by one lexeme at a time. A state holds what is open around the place reached, with the parts already read.
-- It works out what document 01 says of refusals 4 and 5; `proofs/` shows that it accepts the Programs and refuses exactly as Grammar.antt says.
use mathlib.Core.List.{List, [], ◌∷◌}
use mathlib.Core.Bool.{Bool, true, false, cond, ◌||◌}
use Prim.Native.Nat.{ℕ, zero, suc}
use lib.Dec.{ltb, eqb}
use Rattle.base.specs.declared.Refusal.TheVariants.{NoProgram, TooDeep}
use Rattle.base.specs.Answers.{Answer, given, refused}
use Rattle.lexeme.specs.inner.Coded.{code_of}
use Rattle.lexeme.specs.Lexemes.{Name, Quoted, Fixed, Lexeme, Placed, lit, name, class, string, fixed}
use Rattle.lexeme.specs.Lexemes.{plus_sign, minus_sign, star, slash, less_sign, greater_sign, equals_sign, open_round, close_round, open_brace, close_brace, becomes, DO, ERROR, IF, INT, NOT, PRINTI, PRINTLNS, PRINTS, READ, THEN, WHILE, end}
use Rattle.sentence.specs.Sentences.{Sign, plus, minus, Mul, times, over, Rel, less, greater, equal, Kind, Sen, factor, term, expression, condition, command, commands, literal, variable, bracket, first, multiply, unsigned, signed, add, negated, compare, print, print_line, print_string, declare, input, assign, error, while, when, block, single, then}

-- ---- states

-- what is open around a construct of the kind, up to the program
pub data Around : Kind → Type 0 where
  in_first : Around term → Around factor
  in_multiply : Sen Name term → Mul → Around term → Around factor
  in_unsigned : Around expression → Around term
  in_signed : Sign → Around expression → Around term
  in_add : Sen Name expression → Sign → Around expression → Around term
  in_bracket : Around factor → Around expression
  in_left : Around condition → Around expression
  in_right : Sen Name expression → Rel → Around condition → Around expression
  in_print : Around command → Around expression
  in_assign : Name → Around command → Around expression
  in_negated : Around condition → Around condition
  in_while : Around command → Around condition
  in_when : Around command → Around condition
  in_while_body : Sen Name condition → Around command → Around command
  in_when_body : Sen Name condition → Around command → Around command
  in_block : Around command → Around command
  in_block_after : Sen Name commands → Around command → Around command
  in_program : Around command

-- the nestings open there
unfoldable pub depth : {k : Kind} → Around k → ℕ
depth (in_first k) = depth k
depth (in_multiply t o k) = depth k
depth (in_unsigned k) = depth k
depth (in_signed s k) = depth k
depth (in_add e s k) = depth k
depth (in_bracket k) = suc (depth k)
depth (in_left k) = depth k
depth (in_right e r k) = depth k
depth (in_print k) = depth k
depth (in_assign x k) = depth k
depth (in_negated k) = suc (depth k)
depth (in_while k) = suc (depth k)
depth (in_when k) = suc (depth k)
depth (in_while_body c k) = suc (depth k)
depth (in_when_body c k) = suc (depth k)
depth (in_block k) = suc (depth k)
depth (in_block_after ms k) = suc (depth k)
depth in_program = zero

-- what is wanted next, or what was read last; or a whole Program; or no Program begins so
pub data State : Type 0 where
  want_DO : State
  want_factor : Around factor → State
  want_expression : Around expression → State
  want_condition : Around condition → State
  want_command : Around command → State
  want_line : Around command → State
  want_string : Around command → State
  want_declared : Around command → State
  want_read : Around command → State
  want_becomes : Name → Around command → State
  got_term : Sen Name term → Around term → State
  got_command : Sen Name command → Around command → State
  whole : Sen Name command → State
  nowhere : State

-- ---- one lexeme: where it is of such a kind, then the one, else the other

unfoldable pub is : Fixed → Lexeme → Bool
is w (lit n) = false
is w (name x) = false
is w (class x) = false
is w (string q) = false
is w (fixed v) = eqb (code_of v) (code_of w)

unfoldable pub on : Fixed → Lexeme → State → State → State
on w l such other = cond (is w l) such other

unfoldable pub on_lit : Lexeme → (ℕ → State) → State → State
on_lit (lit n) such other = such n
on_lit (name x) such other = other
on_lit (class x) such other = other
on_lit (string q) such other = other
on_lit (fixed v) such other = other

unfoldable pub on_name : Lexeme → (Name → State) → State → State
on_name (lit n) such other = other
on_name (name x) such other = such x
on_name (class x) such other = other
on_name (string q) such other = other
on_name (fixed v) such other = other

unfoldable pub on_string : Lexeme → (Quoted → State) → State → State
on_string (lit n) such other = other
on_string (name x) such other = other
on_string (class x) such other = other
on_string (string q) such other = such q
on_string (fixed v) such other = other

unfoldable pub on_sign : Lexeme → (Sign → State) → State → State
on_sign l such other = on plus_sign l (such plus) (on minus_sign l (such minus) other)

unfoldable pub on_mul : Lexeme → (Mul → State) → State → State
on_mul l such other = on star l (such times) (on slash l (such over) other)

unfoldable pub on_rel : Lexeme → (Rel → State) → State → State
on_rel l such other = on less_sign l (such less) (on greater_sign l (such greater) (on equals_sign l (such equal) other))

-- the same by the number of a fixed lexeme
unfoldable pub is_sign : ℕ → Bool
is_sign n = eqb n (code_of plus_sign) || eqb n (code_of minus_sign)

unfoldable pub is_mul : ℕ → Bool
is_mul n = eqb n (code_of star) || eqb n (code_of slash)

unfoldable pub is_rel : ℕ → Bool
is_rel n = eqb n (code_of less_sign) || (eqb n (code_of greater_sign) || eqb n (code_of equals_sign))

-- ---- where a construct is wanted

unfoldable pub got_factor : Sen Name factor → Around factor → State
got_factor f (in_first k) = got_term (first f) k
got_factor f (in_multiply t o k) = got_term (multiply t o f) k

unfoldable pub at_factor : Around factor → Lexeme → State
at_factor k l =
    on_lit l (λ n. got_factor (literal n) k)
    (on_name l (λ x. got_factor (variable x) k)
    (on open_round l (want_expression (in_bracket k))
    nowhere))

unfoldable pub at_expression : Around expression → Lexeme → State
at_expression k l =
    on_sign l (λ s. want_factor (in_first (in_signed s k)))
    (at_factor (in_first (in_unsigned k)) l)

unfoldable pub at_condition : Around condition → Lexeme → State
at_condition k l =
    on NOT l (want_condition (in_negated k))
    (at_expression (in_left k) l)

unfoldable pub at_command : Around command → Lexeme → State
at_command k l =
    on PRINTI l (want_expression (in_print k))
    (on PRINTLNS l (want_line k)
    (on PRINTS l (want_string k)
    (on INT l (want_declared k)
    (on READ l (want_read k)
    (on_name l (λ x. want_becomes x k)
    (on ERROR l (got_command error k)
    (on WHILE l (want_condition (in_while k))
    (on IF l (want_condition (in_when k))
    (on open_brace l (want_command (in_block k))
    nowhere)))))))))

-- ---- after a construct

unfoldable pub at_command_or_brace : Sen Name commands → Around command → Lexeme → State
at_command_or_brace ms k l =
    on close_brace l (got_command (block ms) k)
    (at_command (in_block_after ms k) l)

unfoldable pub after_command : Sen Name command → Around command → Lexeme → State
after_command m (in_while_body c k) l = after_command (while c m) k l
after_command m (in_when_body c k) l = after_command (when c m) k l
after_command m (in_block k) l = at_command_or_brace (single m) k l
after_command m (in_block_after ms k) l = at_command_or_brace (then ms m) k l
after_command m in_program l = on end l (whole m) nowhere

unfoldable pub after_condition : Sen Name condition → Around condition → Lexeme → State
after_condition c (in_negated k) l = after_condition (negated c) k l
after_condition c (in_while k) l = on DO l (want_command (in_while_body c k)) nowhere
after_condition c (in_when k) l = on THEN l (want_command (in_when_body c k)) nowhere

-- an expression that no sign goes on with
unfoldable pub whole_expression : Sen Name expression → Around expression → Lexeme → State
whole_expression e (in_bracket k) l = on close_round l (got_factor (bracket e) k) nowhere
whole_expression e (in_left k) l = on_rel l (λ r. want_expression (in_right e r k)) nowhere
whole_expression e (in_right d r k) l = after_condition (compare d r e) k l
whole_expression e (in_print k) l = after_command (print e) k l
whole_expression e (in_assign x k) l = after_command (assign x e) k l

unfoldable pub after_expression : Sen Name expression → Around expression → Lexeme → State
after_expression e k l =
    on_sign l (λ s. want_factor (in_first (in_add e s k)))
    (whole_expression e k l)

-- a term that no `*` or `/` goes on with
unfoldable pub whole_term : Sen Name term → Around term → Lexeme → State
whole_term t (in_unsigned k) l = after_expression (unsigned t) k l
whole_term t (in_signed s k) l = after_expression (signed s t) k l
whole_term t (in_add e s k) l = after_expression (add e s t) k l

unfoldable pub after_term : Sen Name term → Around term → Lexeme → State
after_term t k l =
    on_mul l (λ o. want_factor (in_multiply t o k))
    (whole_term t k l)

-- ---- the state after one lexeme more

unfoldable pub step : State → Lexeme → State
step want_DO l = on DO l (want_command in_program) nowhere
step (want_factor k) l = at_factor k l
step (want_expression k) l = at_expression k l
step (want_condition k) l = at_condition k l
step (want_command k) l = at_command k l
step (want_line k) l = on_string l (λ q. got_command (print_line q) k) nowhere
step (want_string k) l = on_string l (λ q. got_command (print_string q) k) nowhere
step (want_declared k) l = on_name l (λ x. got_command (declare x) k) nowhere
step (want_read k) l = on_name l (λ x. got_command (input x) k) nowhere
step (want_becomes x k) l = on becomes l (want_expression (in_assign x k)) nowhere
step (got_term t k) l = after_term t k l
step (got_command m k) l = after_command m k l
step (whole m) l = nowhere
step nowhere l = nowhere

-- ---- the leftmost of 4 and 5

-- a state goes on with so many nestings open, or is a whole Program, or begins none
pub data Verdict : Type 0 where
  goes_on : ℕ → Verdict
  is_whole : Sen Name command → Verdict
  begins_none : Verdict

unfoldable pub verdict : State → Verdict
verdict want_DO = goes_on 0
verdict (want_factor k) = goes_on (depth k)
verdict (want_expression k) = goes_on (depth k)
verdict (want_condition k) = goes_on (depth k)
verdict (want_command k) = goes_on (depth k)
verdict (want_line k) = goes_on (depth k)
verdict (want_string k) = goes_on (depth k)
verdict (want_declared k) = goes_on (depth k)
verdict (want_read k) = goes_on (depth k)
verdict (want_becomes x k) = goes_on (depth k)
verdict (got_term t k) = goes_on (depth k)
verdict (got_command m k) = goes_on (depth k)
verdict (whole m) = is_whole m
verdict nowhere = begins_none

module _ (limit : ℕ) where
  -- the lexemes from a state on; the last is the end, which only a whole Program passes
  unfoldable pub read_from : State → List Placed → Answer (Sen Name command)
  read_from s [] = elim (verdict s) [ goes_on d ↦ refused NoProgram 0 | is_whole m ↦ given m | begins_none ↦ refused NoProgram 0 ]
  read_from s (l ∷ ls) = elim (verdict (step s l.what)) [
    | goes_on d ↦ elim (ltb limit d) [ true ↦ refused TooDeep l.place | false ↦ read_from (step s l.what) ls ]
    | is_whole m ↦ read_from (whole m) ls
    | begins_none ↦ refused NoProgram l.place
  ]

  unfoldable pub read : List Placed → Answer (Sen Name command)
  read ls = read_from want_DO ls
