-- Each step of the reader has read the lexeme that it was given, closes no more than was open, and does not go on after the end.
use mathlib.Core.Path.{◌≡◌, refl, ◌∙◌}
use mathlib.Core.List.{◌∷◌, ◌++◌, append_assoc}
use Prim.Native.Nat.{suc}
use Rattle.lexeme.specs.inner.Coded.{code_of}
use Rattle.lexeme.specs.Lexemes.{Name, Lexeme, fixed}
use Rattle.lexeme.specs.Lexemes.{plus_sign, minus_sign, star, slash, less_sign, greater_sign, equals_sign, open_round, close_round, open_brace, close_brace, becomes, DO, ERROR, IF, INT, NOT, PRINTI, PRINTLNS, PRINTS, READ, THEN, WHILE, end}
use Rattle.sentence.specs.Sentences.{Sen, factor, term, expression, condition, command, commands, literal, variable, bracket, unsigned, signed, add, negated, compare, print, assign, while, when, single, then}
use Rattle.sentence.specs.Sentences.{sign, mul, rel, spell, program}
use Rattle.sentence.proofs.Reader.{Around, depth, in_first, in_multiply, in_unsigned, in_signed, in_add, in_bracket, in_left, in_right, in_print, in_assign, in_negated, in_while, in_when, in_while_body, in_when_body, in_block, in_block_after, in_program}
use Rattle.sentence.proofs.Reader.{State, want_DO, want_factor, want_expression, want_condition, want_command, want_line, want_string, want_declared, want_read, want_becomes, got_term, got_command, whole, nowhere}
use Rattle.sentence.proofs.Reader.{is, on_sign, on_mul, on_rel, got_factor, at_factor, at_expression, at_condition, at_command, at_command_or_brace, after_command, after_condition, whole_expression, after_expression, whole_term, after_term, step}
use Rattle.sentence.proofs.Reader.{verdict}
use Rattle.sentence.proofs.Had.{before, had, open_at, going, opens, Good, stuck, good, deeper, by_word, by_lit, by_name, by_string}
use Rattle.sentence.proofs.Walk.{closes, nested_at, factor_open}

-- ---- where a construct is wanted

factor_had : (f : Sen Name factor) (k : Around factor) → had (got_factor f k) ≡ before k ++ spell f
unfolding got_factor had before spell
factor_had f (in_first k) = refl
factor_had f (in_multiply t o k) = simp append_assoc

good_at_factor : (k : Around factor) (l : Lexeme) → Good (before k) (depth k) (at_factor k l) l
unfolding at_factor had before spell depth verdict nested_at open_at going closes opens is code_of
good_at_factor k l =
    by_lit l (λ n. good tt (rw (factor_open (literal n) k)) (factor_had (literal n) k))
    (by_name l (λ x. good tt (rw (factor_open (variable x) k)) (factor_had (variable x) k))
    (by_word open_round l (good tt refl refl)
    stuck))

good_at_expression : (k : Around expression) (l : Lexeme) → Good (before k) (depth k) (at_expression k l) l
unfolding at_expression on_sign sign had before depth verdict nested_at open_at going closes opens is code_of
good_at_expression k l = by_word plus_sign l (good tt refl refl) (by_word minus_sign l (good tt refl refl) (good_at_factor (in_first (in_unsigned k)) l))

good_at_condition : (k : Around condition) (l : Lexeme) → Good (before k) (depth k) (at_condition k l) l
unfolding at_condition had before depth verdict nested_at open_at going closes opens is code_of
good_at_condition k l = by_word NOT l (good tt refl refl) (good_at_expression (in_left k) l)

good_at_command : (k : Around command) (l : Lexeme) → Good (before k) (depth k) (at_command k l) l
unfolding at_command had before spell depth verdict nested_at open_at going closes opens is code_of
good_at_command k l =
    by_word PRINTI l (good tt refl refl)
    (by_word PRINTLNS l (good tt refl refl)
    (by_word PRINTS l (good tt refl refl)
    (by_word INT l (good tt refl refl)
    (by_word READ l (good tt refl refl)
    (by_name l (λ x. good tt refl refl)
    (by_word ERROR l (good tt refl refl)
    (by_word WHILE l (good tt refl refl)
    (by_word IF l (good tt refl refl)
    (by_word open_brace l (good tt refl refl)
    stuck)))))))))

-- ---- after a construct

good_at_command_or_brace : (ms : Sen Name commands) (k : Around command) (l : Lexeme) → Good (before k ++ fixed open_brace ∷ spell ms) (suc (depth k)) (at_command_or_brace ms k l) l
unfolding at_command_or_brace had before spell depth verdict nested_at open_at going closes opens is code_of
good_at_command_or_brace ms k l =
    by_word close_brace l (good tt refl (simp append_assoc))
    (good_at_command (in_block_after ms k) l)

good_after_command : (m : Sen Name command) (k : Around command) (l : Lexeme) → Good (before k ++ spell m) (depth k) (after_command m k l) l
unfolding after_command had before spell program depth verdict nested_at open_at going closes opens is code_of
good_after_command m (in_while_body c k) l = simp append_assoc (deeper (good_after_command (while c m) k l))
good_after_command m (in_when_body c k) l = simp append_assoc (deeper (good_after_command (when c m) k l))
good_after_command m (in_block k) l = simp append_assoc (good_at_command_or_brace (single m) k l)
good_after_command m (in_block_after ms k) l = simp append_assoc (good_at_command_or_brace (then ms m) k l)
good_after_command m in_program l = by_word end l (good tt refl refl) stuck

good_after_condition : (c : Sen Name condition) (k : Around condition) (l : Lexeme) → Good (before k ++ spell c) (depth k) (after_condition c k l) l
unfolding after_condition had before spell depth verdict nested_at open_at going closes opens is code_of
good_after_condition c (in_negated k) l = simp append_assoc (deeper (good_after_condition (negated c) k l))
good_after_condition c (in_while k) l = by_word DO l (good tt refl (simp append_assoc)) stuck
good_after_condition c (in_when k) l = by_word THEN l (good tt refl (simp append_assoc)) stuck

good_whole_expression : (e : Sen Name expression) (k : Around expression) (l : Lexeme) → Good (before k ++ spell e) (depth k) (whole_expression e k l) l
unfolding whole_expression on_rel rel had before spell depth verdict nested_at open_at going closes opens is code_of
good_whole_expression e (in_bracket k) l =
    by_word close_round l
    (good tt (rw (factor_open (bracket e) k)) (factor_had (bracket e) k ∙ simp append_assoc)) stuck
good_whole_expression e (in_left k) l =
    by_word less_sign l (good tt refl (simp append_assoc))
    (by_word greater_sign l (good tt refl (simp append_assoc))
    (by_word equals_sign l (good tt refl (simp append_assoc))
    stuck))
good_whole_expression e (in_right d r k) l = simp append_assoc (good_after_condition (compare d r e) k l)
good_whole_expression e (in_print k) l = simp append_assoc (good_after_command (print e) k l)
good_whole_expression e (in_assign x k) l = simp append_assoc (good_after_command (assign x e) k l)

good_after_expression : (e : Sen Name expression) (k : Around expression) (l : Lexeme) → Good (before k ++ spell e) (depth k) (after_expression e k l) l
unfolding after_expression on_sign sign had before depth verdict nested_at open_at going closes opens is code_of
good_after_expression e k l = by_word plus_sign l (good tt refl (simp append_assoc)) (by_word minus_sign l (good tt refl (simp append_assoc)) (good_whole_expression e k l))

good_whole_term : (t : Sen Name term) (k : Around term) (l : Lexeme) → Good (before k ++ spell t) (depth k) (whole_term t k l) l
unfolding whole_term before spell depth
good_whole_term t (in_unsigned k) l = good_after_expression (unsigned t) k l
good_whole_term t (in_signed s k) l = simp append_assoc (good_after_expression (signed s t) k l)
good_whole_term t (in_add e s k) l = simp append_assoc (good_after_expression (add e s t) k l)

pub good_step : (s : State) (l : Lexeme) → Good (had s) (open_at (verdict s)) (step s l) l
unfolding step had before spell after_term on_mul mul depth verdict nested_at open_at going closes opens is code_of
good_step want_DO l = by_word DO l (good tt refl refl) stuck
good_step (want_factor k) l = good_at_factor k l
good_step (want_expression k) l = good_at_expression k l
good_step (want_condition k) l = good_at_condition k l
good_step (want_command k) l = good_at_command k l
good_step (want_line k) l = by_string l (λ q. good tt refl (simp append_assoc)) stuck
good_step (want_string k) l = by_string l (λ q. good tt refl (simp append_assoc)) stuck
good_step (want_declared k) l = by_name l (λ x. good tt refl (simp append_assoc)) stuck
good_step (want_read k) l = by_name l (λ x. good tt refl (simp append_assoc)) stuck
good_step (want_becomes x k) l = by_word becomes l (good tt refl (simp append_assoc)) stuck
good_step (got_term t k) l = by_word star l (good tt refl (simp append_assoc)) (by_word slash l (good tt refl (simp append_assoc)) (good_whole_term t k l))
good_step (got_command m k) l = good_after_command m k l
good_step (whole m) l = stuck
good_step nowhere l = stuck
