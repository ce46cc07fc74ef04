-- The reader is at some state other than `nowhere` exactly where a Program begins with what it was fed.
use mathlib.Core.Path.{◌≡◌, refl, sym, ap, ◌∙◌, subst}
use mathlib.Core.List.{List, [], ◌∷◌, ◌++◌, append_assoc, append-nil}
use lib.Dec.{T}
use Rattle.lexeme.specs.Lexemes.{Name, Quoted, Lexeme, lit, name, string, fixed, close_round, close_brace, becomes, DO, ERROR, THEN, end}
use Rattle.sentence.specs.Sentences.{less, rel, Kind, Sen, expression, command, literal, bracket, first, multiply, unsigned, signed, add, negated, compare, print, print_line, print_string, declare, input, assign, error, while, when, block, single, then}
use Rattle.sentence.specs.Sentences.{spell, program}
use Rattle.sentence.specs.Grammar.{Whole, Begins}
use Rattle.sentence.proofs.Reader.{Around, in_first, in_multiply, in_unsigned, in_signed, in_add, in_bracket, in_left, in_right, in_print, in_assign, in_negated, in_while, in_when, in_while_body, in_when_body, in_block, in_block_after, in_program}
use Rattle.sentence.proofs.Reader.{State, want_DO, want_factor, want_expression, want_condition, want_command, want_line, want_string, want_declared, want_read, want_becomes, got_term, got_command, whole, nowhere, step}
use Rattle.sentence.proofs.Reader.{Verdict, verdict, goes_on, is_whole, begins_none}
use Rattle.sentence.proofs.Walk.{walk, went, after, complete, walk_append}
use Rattle.sentence.proofs.Had.{before, had, alive_at, Alive}
use Rattle.sentence.proofs.Steps.{good_step}

-- ---- what was read is what was fed

-- a verdict that ends the reading tells the state
unfoldable pub Settled : Verdict → State → Type 0
Settled (goes_on d) s = Unit {0}
Settled (is_whole m) s = s ≡ whole m
Settled begins_none s = s ≡ nowhere

pub settled : (s : State) → Settled (verdict s) s
unfolding Settled verdict
settled want_DO = tt
settled (want_factor k) = tt
settled (want_expression k) = tt
settled (want_condition k) = tt
settled (want_command k) = tt
settled (want_line k) = tt
settled (want_string k) = tt
settled (want_declared k) = tt
settled (want_read k) = tt
settled (want_becomes x k) = tt
settled (got_term t k) = tt
settled (got_command m k) = tt
settled (whole m) = refl
settled nowhere = refl

stays_nowhere : (ls : List Lexeme) → (walk nowhere ls).state ≡ nowhere
unfolding walk went step
stays_nowhere [] = refl
stays_nowhere (l ∷ ls) = stays_nowhere ls

pub alive_before : (s : State) (ls : List Lexeme) → Alive (walk s ls).state → Alive s
unfolding Settled alive_at verdict
alive_before s ls a = go (verdict s) (settled s)
  where
    go : (v : Verdict) → Settled v s → T (alive_at v)
    go (goes_on d) e = tt
    go (is_whole m) e = tt
    go begins_none e = rw (e, stays_nowhere ls) at a

fed : (s : State) (ls : List Lexeme) → Alive (walk s ls).state → had (walk s ls).state ≡ had s ++ ls
unfolding walk went
fed s [] a = sym (append-nil (had s))
fed s (l ∷ ls) a = fed (step s l) ls a ∙ ap (λ read. read ++ ls) ((good_step s l).has (alive_before (step s l) ls a)) ∙ append_assoc (had s) (l ∷ []) ls

pub sound : (ls : List Lexeme) (m : Sen Name command) → (walk want_DO ls).state ≡ whole m → Whole ls m
unfolding Whole had verdict alive_at
sound ls m e = rw e at (fed want_DO ls (rw e tt))

-- ---- a state that is not `nowhere` begins a Program

zero_expression : Sen Name expression
zero_expression = unsigned (first (literal 0))

no_name : Name
no_name = record { spelled = []; place = 0 }

no_bytes : Quoted
no_bytes = record { inside = []; place = 0 }

-- what is open, closed in the shortest way around a construct
Closes : {k : Kind} → Around k → Sen Name k → Type 0
Closes k x = (more : List Lexeme) × (m : Sen Name command) × (program m ++ fixed end ∷ [] ≡ before k ++ (spell x ++ more))

shut : {k j : Kind} (a : Around k) (x : Sen Name k) (b : Around j) (y : Sen Name j) (more : List Lexeme) → ((rest : List Lexeme) → before b ++ (spell y ++ rest) ≡ before a ++ (spell x ++ (more ++ rest))) → Closes b y → Closes a x
unfolding Closes
shut a x b y more e r = (more ++ r.0, r.1, r.2 ∙ e r.0)

can_close : {k : Kind} (a : Around k) (x : Sen Name k) → Closes a x
unfolding before spell zero_expression
can_close (in_first a) x = shut _ _ a (first x) [] (λ rest. refl) (can_close a (first x))
can_close (in_multiply t o a) x = shut _ _ a (multiply t o x) [] (λ rest. simp append_assoc) (can_close a (multiply t o x))
can_close (in_unsigned a) x = shut _ _ a (unsigned x) [] (λ rest. refl) (can_close a (unsigned x))
can_close (in_signed s a) x = shut _ _ a (signed s x) [] (λ rest. simp append_assoc) (can_close a (signed s x))
can_close (in_add e s a) x = shut _ _ a (add e s x) [] (λ rest. simp append_assoc) (can_close a (add e s x))
can_close (in_bracket a) x = shut _ _ a (bracket x) (fixed close_round ∷ []) (λ rest. simp append_assoc) (can_close a (bracket x))
can_close (in_left a) x = shut _ _ a (compare x less zero_expression) (rel less ∷ lit 0 ∷ []) (λ rest. simp append_assoc) (can_close a (compare x less zero_expression))
can_close (in_right d r a) x = shut _ _ a (compare d r x) [] (λ rest. simp append_assoc) (can_close a (compare d r x))
can_close (in_print a) x = shut _ _ a (print x) [] (λ rest. simp append_assoc) (can_close a (print x))
can_close (in_assign y a) x = shut _ _ a (assign y x) [] (λ rest. simp append_assoc) (can_close a (assign y x))
can_close (in_negated a) x = shut _ _ a (negated x) [] (λ rest. simp append_assoc) (can_close a (negated x))
can_close (in_while a) x = shut _ _ a (while x error) (fixed DO ∷ fixed ERROR ∷ []) (λ rest. simp append_assoc) (can_close a (while x error))
can_close (in_when a) x = shut _ _ a (when x error) (fixed THEN ∷ fixed ERROR ∷ []) (λ rest. simp append_assoc) (can_close a (when x error))
can_close (in_while_body c a) x = shut _ _ a (while c x) [] (λ rest. simp append_assoc) (can_close a (while c x))
can_close (in_when_body c a) x = shut _ _ a (when c x) [] (λ rest. simp append_assoc) (can_close a (when c x))
can_close (in_block a) x = shut _ _ a (block (single x)) (fixed close_brace ∷ []) (λ rest. simp append_assoc) (can_close a (block (single x)))
can_close (in_block_after ms a) x = shut _ _ a (block (then ms x)) (fixed close_brace ∷ []) (λ rest. simp append_assoc) (can_close a (block (then ms x)))
can_close in_program x = unfold Closes program in (fixed end ∷ [], x, refl)

-- from what a state has read to a Program
begun : {k : Kind} (a : Around k) (x : Sen Name k) (ls more : List Lexeme) → before a ++ spell x ≡ ls ++ more → Begins ls
unfolding Begins Whole Closes
begun a x ls more e = let r = can_close a x in (more ++ r.0, r.1, r.2 ∙ sym (append_assoc (before a) (spell x) r.0) ∙ ap (λ ys. ys ++ r.0) e ∙ append_assoc ls more r.0)

state_begins : (s : State) → Alive s → Begins (had s)
unfolding had before spell alive_at verdict zero_expression
state_begins want_DO a = begun in_program error _ (fixed DO ∷ fixed ERROR ∷ []) refl
state_begins (want_factor k) a = begun k (literal 0) _ (lit 0 ∷ []) refl
state_begins (want_expression k) a = begun k zero_expression _ (lit 0 ∷ []) refl
state_begins (want_condition k) a = begun k (compare zero_expression less zero_expression) _ (lit 0 ∷ rel less ∷ lit 0 ∷ []) refl
state_begins (want_command k) a = begun k error _ (fixed ERROR ∷ []) refl
state_begins (want_line k) a = begun k (print_line no_bytes) _ (string no_bytes ∷ []) (simp append_assoc)
state_begins (want_string k) a = begun k (print_string no_bytes) _ (string no_bytes ∷ []) (simp append_assoc)
state_begins (want_declared k) a = begun k (declare no_name) _ (name no_name ∷ []) (simp append_assoc)
state_begins (want_read k) a = begun k (input no_name) _ (name no_name ∷ []) (simp append_assoc)
state_begins (want_becomes x k) a = begun k (assign x zero_expression) _ (fixed becomes ∷ lit 0 ∷ []) (simp append_assoc)
state_begins (got_term t k) a = begun k t _ [] (sym (append-nil _))
state_begins (got_command m k) a = begun k m _ [] (sym (append-nil _))
state_begins (whole m) a = unfold Begins Whole in ([], m, sym (append-nil _))
state_begins nowhere a = absurd a

pub viable : (ls : List Lexeme) → Alive (walk want_DO ls).state → Begins ls
unfolding had
viable ls a = subst Begins (fed want_DO ls a) (state_begins (walk want_DO ls).state a)

pub begins→alive : (ls : List Lexeme) → Begins ls → Alive (walk want_DO ls).state
unfolding Begins Whole after alive_at verdict
begins→alive ls b = alive_before (walk want_DO ls).state b.0 (subst (λ w. Alive w.state) (sym (complete b.1) ∙ ap (walk want_DO) b.2 ∙ walk_append want_DO ls b.0) tt)
