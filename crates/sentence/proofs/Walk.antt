-- A walk of the reader: the state that it comes to and, for each lexeme, the nestings it stands in. Walking a sentence gives what Sentences.antt says of it.
use mathlib.Core.Path.{◌≡◌, refl, ap}
use mathlib.Core.List.{List, [], ◌∷◌, ◌++◌, append_assoc}
use mathlib.Core.Bool.{Bool, false, cond, ◌||◌}
use Prim.Native.Nat.{ℕ, suc}
use Rattle.lexeme.specs.inner.Coded.{code_of, kind_of, fixed_number}
use Rattle.lexeme.specs.Lexemes.{Name, Lexeme, name, fixed}
use Rattle.lexeme.specs.Lexemes.{close_round, open_brace, close_brace, DO, ERROR, IF, INT, PRINTI, PRINTLNS, PRINTS, READ, THEN, WHILE, end}
use Rattle.sentence.specs.Sentences.{Sign, plus, minus, Mul, times, over, Rel, less, greater, equal, sign, mul, rel, Kind, Sen, factor, term, expression, condition, command, commands, literal, variable, bracket, first, multiply, unsigned, signed, add, negated, compare, print, print_line, print_string, declare, input, assign, error, while, when, block, single, then}
use Rattle.sentence.specs.Sentences.{spell, program, nestings, program_nestings}
use Rattle.sentence.proofs.Reader.{Around, depth, in_first, in_multiply, in_unsigned, in_signed, in_add, in_bracket, in_left, in_right, in_print, in_assign, in_negated, in_while, in_when, in_while_body, in_when_body, in_block, in_block_after, in_program}
use Rattle.sentence.proofs.Reader.{State, want_DO, want_factor, want_expression, want_condition, want_command, got_term, whole}
use Rattle.sentence.proofs.Reader.{is, on, on_lit, on_name, on_string, on_sign, on_mul, on_rel, is_sign, is_mul, got_factor, at_factor, at_expression, at_condition, at_command, at_command_or_brace, after_command, after_condition, whole_expression, after_expression, whole_term, after_term, step}
use Rattle.sentence.proofs.Reader.{Verdict, verdict, goes_on, is_whole, begins_none}
use Rattle.sentence.proofs.Operators.{number_of, on_a_sign, on_no_sign, on_a_mul, on_no_mul, on_a_rel}

-- ---- the walk

unfoldable pub closes : Lexeme → Bool
closes l = is close_round l || is close_brace l

-- a lexeme that closes a nesting still stands in it
unfoldable pub nested_at : Lexeme → Verdict → ℕ
nested_at l (goes_on d) = cond (closes l) (suc d) d
nested_at l (is_whole m) = 0
nested_at l begins_none = 0

pub record Walked : Type 0 where
  pub state : State
  pub nested : List ℕ

-- by the lexeme l to the state s, and on from there
unfoldable pub went : Lexeme → State → Walked → Walked
went l s w = record { state = w.state; nested = nested_at l (verdict s) ∷ w.nested }

unfoldable pub walk : State → List Lexeme → Walked
walk s [] = record { state = s; nested = [] }
walk s (l ∷ ls) = went l (step s l) (walk (step s l) ls)

unfoldable pub after : List ℕ → Walked → Walked
after ns w = record { state = w.state; nested = ns ++ w.nested }

pub walk_append : (s : State) (xs ys : List Lexeme) → walk s (xs ++ ys) ≡ after (walk s xs).nested (walk (walk s xs).state ys)
unfolding walk went after
walk_append s [] ys = refl
walk_append s (x ∷ xs) ys = ap (went x (step s x)) (walk_append (step s x) xs ys)

-- ---- every sentence is read

-- the lexeme goes on no term; and no expression either
abbrev NoMul : Lexeme → Type 0
NoMul l = is_mul (number_of l) ≡ false

abbrev NoSign : Lexeme → Type 0
NoSign l = is_sign (number_of l) ≡ false

abbrev walk_by : Lexeme → State → List Lexeme → Walked
walk_by l s ls = went l s (walk s ls)

-- what it is to read a construct of the kind
Reads : (k : Kind) → Sen Name k → Type 0
Reads factor f = (k : Around factor) (ls : List Lexeme) → walk (want_factor k) (spell f ++ ls) ≡ after (nestings (depth k) f) (walk (got_factor f k) ls)
Reads term t = (k : Around term) (ls : List Lexeme) → walk (want_factor (in_first k)) (spell t ++ ls) ≡ after (nestings (depth k) t) (walk (got_term t k) ls)
Reads expression e = (k : Around expression) (l : Lexeme) (ls : List Lexeme) → NoMul l → walk (want_expression k) (spell e ++ l ∷ ls) ≡ after (nestings (depth k) e) (walk_by l (after_expression e k l) ls)
Reads condition c = (k : Around condition) (l : Lexeme) (ls : List Lexeme) → NoMul l → NoSign l → walk (want_condition k) (spell c ++ l ∷ ls) ≡ after (nestings (depth k) c) (walk_by l (after_condition c k l) ls)
Reads command m = (k : Around command) (l : Lexeme) (ls : List Lexeme) → NoMul l → NoSign l → walk (want_command k) (spell m ++ l ∷ ls) ≡ after (nestings (depth k) m) (walk_by l (after_command m k l) ls)
Reads commands ms = (k : Around command) (l : Lexeme) (ls : List Lexeme) → NoMul l → NoSign l → walk (want_command (in_block k)) (spell ms ++ l ∷ ls) ≡ after (nestings (suc (depth k)) ms) (walk_by l (at_command_or_brace ms k l) ls)

pub factor_open : (f : Sen Name factor) (k : Around factor) → verdict (got_factor f k) ≡ goes_on (depth k)
unfolding got_factor verdict depth
factor_open f (in_first k) = refl
factor_open f (in_multiply t o k) = refl

-- a term with no sign before it is read where an expression is wanted
lead : (t : Sen Name term) (k : Around expression) (ls : List Lexeme) → walk (want_expression k) (spell t ++ ls) ≡ walk (want_factor (in_first (in_unsigned k))) (spell t ++ ls)
unfolding walk step spell at_expression on_sign on is code_of
lead (first (literal n)) k ls = refl
lead (first (variable x)) k ls = refl
lead (first (bracket e)) k ls = refl
lead (multiply t o f) k ls = rw append_assoc (lead t k (mul o ∷ (spell f ++ ls)))

-- an expression is read where a condition is wanted
lead_condition_term : (t : Sen Name term) (k : Around condition) (ls : List Lexeme) → walk (want_condition k) (spell t ++ ls) ≡ walk (want_expression (in_left k)) (spell t ++ ls)
unfolding walk step spell at_condition on is code_of
lead_condition_term (first (literal n)) k ls = refl
lead_condition_term (first (variable x)) k ls = refl
lead_condition_term (first (bracket e)) k ls = refl
lead_condition_term (multiply t o f) k ls = rw append_assoc (lead_condition_term t k (mul o ∷ (spell f ++ ls)))

lead_condition : (e : Sen Name expression) (k : Around condition) (ls : List Lexeme) → walk (want_condition k) (spell e ++ ls) ≡ walk (want_expression (in_left k)) (spell e ++ ls)
unfolding walk step spell sign at_condition on is code_of
lead_condition (unsigned t) k ls = lead_condition_term t k ls
lead_condition (signed plus t) k ls = refl
lead_condition (signed minus t) k ls = refl
lead_condition (add e s t) k ls = rw append_assoc (lead_condition e k (sign s ∷ (spell t ++ ls)))

-- a command's first lexeme goes on no term and no expression, and closes no block
data Begun (m : Sen Name command) : Type 0 where
  by : (l : Lexeme) (rest : List Lexeme) → spell m ≡ l ∷ rest → NoMul l → NoSign l → is close_brace l ≡ false → Begun m

begun : (m : Sen Name command) → Begun m
unfolding spell is is_mul is_sign kind_of fixed_number code_of
begun (print e) = by (fixed PRINTI) _ refl refl refl refl
begun (print_line q) = by (fixed PRINTLNS) _ refl refl refl refl
begun (print_string q) = by (fixed PRINTS) _ refl refl refl refl
begun (declare x) = by (fixed INT) _ refl refl refl refl
begun (input x) = by (fixed READ) _ refl refl refl refl
begun (assign x e) = by (name x) _ refl refl refl refl
begun error = by (fixed ERROR) _ refl refl refl refl
begun (while c m) = by (fixed WHILE) _ refl refl refl refl
begun (when c m) = by (fixed IF) _ refl refl refl refl
begun (block ms) = by (fixed open_brace) _ refl refl refl refl

-- a sign goes on no term; a relation goes on no term and no expression
sign_no_mul : (g : Sign) → NoMul (sign g)
unfolding sign is_mul kind_of fixed_number code_of
sign_no_mul plus = refl
sign_no_mul minus = refl

rel_no_mul : (r : Rel) → NoMul (rel r)
unfolding rel is_mul kind_of fixed_number code_of
rel_no_mul less = refl
rel_no_mul greater = refl
rel_no_mul equal = refl

rel_no_sign : (r : Rel) → NoSign (rel r)
unfolding rel is_sign kind_of fixed_number code_of
rel_no_sign less = refl
rel_no_sign greater = refl
rel_no_sign equal = refl

-- no operator closes a nesting
closes_mul : (o : Mul) → closes (mul o) ≡ false
unfolding mul closes is code_of
closes_mul times = refl
closes_mul over = refl

closes_sign : (g : Sign) → closes (sign g) ≡ false
unfolding sign closes is code_of
closes_sign plus = refl
closes_sign minus = refl

closes_rel : (r : Rel) → closes (rel r) ≡ false
unfolding rel closes is code_of
closes_rel less = refl
closes_rel greater = refl
closes_rel equal = refl

reads : {k : Kind} (x : Sen Name k) → Reads k x
unfolding Reads spell nestings depth walk went after nested_at closes verdict step at_factor at_expression at_condition at_command at_command_or_brace after_command after_condition whole_expression after_expression whole_term after_term got_factor on on_lit on_name on_string on_sign on_mul on_rel is is_mul is_sign kind_of fixed_number code_of
reads (literal n) = λ k ls. rw (factor_open (literal n) k)
reads (variable x) = λ k ls. rw (factor_open (variable x) k)
reads (bracket e) = λ k ls. simp append_assoc (rw (reads e (in_bracket k) (fixed close_round) ls refl, factor_open (bracket e) k))
reads (first f) = λ k ls. reads f (in_first k) ls
reads (multiply t o f) = λ k ls. simp append_assoc (rw (reads t k (mul o ∷ (spell f ++ ls)), on_a_mul, closes_mul, reads f (in_multiply t o k) ls) refl)
reads (unsigned t) = λ k l ls h. rw (lead t k (l ∷ ls), reads t (in_unsigned k) (l ∷ ls), on_no_mul)
reads (signed s t) = λ k l ls h. rw (on_a_sign, closes_sign, reads t (in_signed s k) (l ∷ ls), on_no_mul)
reads (add e s t) = λ k l ls h. simp append_assoc (rw (reads e k (sign s) (spell t ++ l ∷ ls) (sign_no_mul s), on_a_sign, closes_sign, reads t (in_add e s k) (l ∷ ls), on_no_mul))
reads (negated c) = λ k l ls h g. rw (reads c (in_negated k) l ls h g) refl
reads (compare d r e) = λ k l ls h g. simp append_assoc (rw (lead_condition d k (rel r ∷ (spell e ++ l ∷ ls)), reads d (in_left k) (rel r) (spell e ++ l ∷ ls) (rel_no_mul r), on_no_sign _ _ (rel r) (rel_no_sign r), on_a_rel, closes_rel, reads e (in_right d r k) l ls h, on_no_sign))
reads (print e) = λ k l ls h g. rw (reads e (in_print k) l ls h, on_no_sign)
reads (print_line q) = λ k l ls h g. refl
reads (print_string q) = λ k l ls h g. refl
reads (declare x) = λ k l ls h g. refl
reads (input x) = λ k l ls h g. refl
reads (assign x e) = λ k l ls h g. rw (reads e (in_assign x k) l ls h, on_no_sign)
reads error = λ k l ls h g. refl
reads (while c m) = λ k l ls h g. simp append_assoc (rw (reads c (in_while k) (fixed DO) (spell m ++ l ∷ ls) refl refl, reads m (in_while_body c k) l ls h g))
reads (when c m) = λ k l ls h g. simp append_assoc (rw (reads c (in_when k) (fixed THEN) (spell m ++ l ∷ ls) refl refl, reads m (in_when_body c k) l ls h g))
reads (block ms) = λ k l ls h g. simp append_assoc (rw (reads ms k (fixed close_brace) (l ∷ ls) refl refl))
reads (single m) = λ k l ls h g. reads m (in_block k) l ls h g
reads (then ms m) = λ k l ls h g. elim (begun m) [
  | by b rest e x y z ↦
      simp append_assoc (rw (e, reads ms k b (rest ++ l ∷ ls) x y, z) (ap (after (nestings (suc (depth k)) ms)) (rw e at (reads m (in_block_after ms k) l ls h g))))
]

-- every Program is read, and its lexemes stand in the nestings that Sentences.antt says
pub complete : (m : Sen Name command) → walk want_DO (program m ++ fixed end ∷ []) ≡ record { state = whole m; nested = program_nestings m ++ 0 ∷ [] }
unfolding Reads program program_nestings walk went after nested_at closes verdict depth step after_command on is is_mul is_sign kind_of fixed_number code_of
complete m = rw (reads m in_program (fixed end) [] refl refl)
