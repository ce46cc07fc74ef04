-- How commands and Programs are read: a law for each way that their readers come to an answer. Assumes nothing.
use mathlib.Core.Path.{◌≡◌, refl, ◌∙◌}
use mathlib.Core.List.{List}
use mathlib.Core.Bool.{Bool, true, false}
use mathlib.Core.Logic.{inl, inr}
use Prim.Native.Nat.{ℕ, suc, ◌+◌, ◌≤◌, ◌<◌}
use native.Mathlib.Nat.{add-zero, le_refl}
use native.Mathlib.Numerals.{add-one}
use native.Mathlib.Omega.{arith}
use mathlib.Mathlib.Data.Bool.Basic.{or-eq-false-eq-eq-false-and-eq-false}
use lib.Dec.{eqb}
use borrow.Author.Tests.{eqb-true, eqb-false}
use Rattle.base.specs.declared.Refusal.{Refusal}
use Rattle.base.specs.declared.Refusal.TheVariants.{NoProgram, TooDeep}
use Rattle.base.specs.declared.Refused.{Refused}
use Rattle.std.specs.Prelude.{Err}
use Rattle.base.specs.Answers.{given, refused}
use Rattle.lexeme.specs.Lexemes.{Name, Lexeme, Fixed, Placed, fixed, end, open_brace, close_brace, becomes, DO, ERROR, IF, INT, PRINTI, PRINTLNS, PRINTS, READ, THEN, WHILE}
use Rattle.lexeme.specs.inner.Coded.{code_of, fixed_number, told, Ends, Stands, Ahead}
use Rattle.lexeme.specs.declared.Kind.TheVariants as kind
use Rattle.lexeme.specs.declared.Lexeme as code
use Rattle.sentence.specs.Sentences.{Sen, condition, command, commands, print, print_line, print_string, declare, input, assign, error, while, when, block, single, then}
use Rattle.sentence.proofs.Reader.{Around, depth, in_print, in_assign, in_while, in_when, in_while_body, in_when_body, in_block, in_block_after, in_program, State, want_DO, want_expression, want_condition, want_command, want_declared, want_read, want_becomes, got_command, nowhere, is, on, on_name, on_string, at_command, at_command_or_brace, after_command, after_condition, whole_expression, step, verdict, goes_on, read}
use Rattle.sentence.proofs.Operators.{either}
use Rattle.compiler.specs.declared.walk.Walk.{Walk}
use Rattle.compiler.specs.inner.Steps.{Lost, Follows, Expects, has_body, before_body}
use Rattle.compiler.specs.inner.Walks.{Passes, Refuses, expression_way, condition_way, command_from, command_way, print_way, string_way, declare_way, read_way, assign_way, guarded_way, block_way, block_so_far, name_of, want_quoted, want_guarded, want_nested}
use Rattle.compiler.proofs.Lays.{quoted, guarded}
use Rattle.compiler.proofs.Looked.{quoted_of, going, name_goes, string_goes, told_name, told_string, told_fixed, no_fixed, no_name, no_string}
use Rattle.compiler.proofs.Reading.{from_via, ended, Comes, Stuck, comes_on, comes_stuck, comes_within, stuck_within, alike, onward, none, too_deep, lost, comes, passes, stuck, refuses, Leads, leads, begins_with, refuses_within, Met, unmet, stays, crosses}

-- ---- after the first lexeme of a command without a body

pub print_leads : (text : List ℕ) (l : code.Lexeme) (allow : ℕ) → Leads text l l allow print_way allow expression_way print
unfolding depth whole_expression
print_leads text l allow = begins_with text l allow print_way allow expression_way print in_print (λ a. refl) refl (λ e. refl)

module _ {text : List ℕ} {l : code.Lexeme} (s : Stands text l) (allow : ℕ) where
  -- a lexeme that ends the command
  ends_command : {m : code.Lexeme} (start : Around command → State) (c : Sen Name command) → (Ends l → ⊥) → Follows text l m → ((a : Around command) → step (start a) (told text l) ≡ got_command c a) → Passes (command_from start) text l m allow c
  unfolding step verdict
  ends_command start c g next e = passes (omega (arith, s.some g, next.later)) next.stands (onward text l (λ a. step (start a)) g next (got_command c) e (λ a. omega arith))

  -- a lexeme with which no command goes on
  no_command_from : (start : Around command → State) → ((a : Around command) → step (start a) (told text l) ≡ nowhere) → Refuses start text l allow NoProgram l.place
  no_command_from start e = refuses (none text l (λ a. step (start a)) e)

  pub quoted_printed : {m : code.Lexeme} (line : Bool) → l.kind ≡ kind.Str → Follows text l m → Passes (string_way line) text l m allow (quoted line (quoted_of text l))
  unfolding step want_quoted on_string quoted
  quoted_printed true h next = ends_command (want_quoted true) (print_line (quoted_of text l)) (string_goes l h) next (λ a. rw (told_string text l h))
  quoted_printed false h next = ends_command (want_quoted false) (print_string (quoted_of text l)) (string_goes l h) next (λ a. rw (told_string text l h))

  pub no_quoted : (line : Bool) → (l.kind ≡ kind.Str → ⊥) → Refuses (want_quoted line) text l allow NoProgram l.place
  unfolding step want_quoted
  no_quoted true h = no_command_from (want_quoted true) (λ a. no_string text l h _ _)
  no_quoted false h = no_command_from (want_quoted false) (λ a. no_string text l h _ _)

  pub name_declared : {m : code.Lexeme} → l.kind ≡ kind.Name → Follows text l m → Passes declare_way text l m allow (declare (name_of text l))
  unfolding step on_name
  name_declared h next = ends_command want_declared (declare (name_of text l)) (name_goes l h) next (λ a. rw (told_name text l h))

  pub none_declared : (l.kind ≡ kind.Name → ⊥) → Refuses declare_way.start text l allow NoProgram l.place
  unfolding step
  none_declared h = no_command_from want_declared (λ a. no_name text l h _ _)

  pub name_read : {m : code.Lexeme} → l.kind ≡ kind.Name → Follows text l m → Passes read_way text l m allow (input (name_of text l))
  unfolding step on_name
  name_read h next = ends_command want_read (input (name_of text l)) (name_goes l h) next (λ a. rw (told_name text l h))

  pub none_read : (l.kind ≡ kind.Name → ⊥) → Refuses read_way.start text l allow NoProgram l.place
  unfolding step
  none_read h = no_command_from want_read (λ a. no_name text l h _ _)

module _ {text : List ℕ} (allow : ℕ) (x : Name) where
  pub assign_leads : {l m : code.Lexeme} → Stands text l → Met text l m becomes → Leads text l m allow (assign_way x) allow expression_way (assign x)
  unfolding depth step on is code_of verdict whole_expression
  assign_leads {l} s met = crosses s (in_assign x) (le_refl l.place) stays (told_fixed s becomes met.number) (going l met.number (λ z. omega arith)) met.follows (λ a. refl) (λ a. refl) (λ a. omega arith) (λ d. refl)

  pub no_becomes : (w : Walk) {e : Refused} → Stands text w.next → Expects text w (code_of becomes) (Err e) → Refuses (want_becomes x) text w.next allow e.why e.place
  unfolding step on code_of
  no_becomes w s e = refuses (unmet w becomes (λ z. omega arith) s (λ a. step (want_becomes x a)) (λ a y h. rw h) e)

-- ---- bodies and blocks

module _ {text : List ℕ} {l m : code.Lexeme} (allow : ℕ) (c : Sen Name condition) (p : Passes condition_way text l m allow c) where
  -- the condition of a command that opens one nesting, and the lexeme before the body
  body_leads : (inner : Around command → Around condition) (body : Around command → Around command) (makes : Sen Name command → Sen Name command) (w : Fixed)
      → ((a : Around command) → depth (inner a) ≡ suc (depth a))
      → ((a : Around command) → depth (body a) ≡ suc (depth a))
      → ((a : Around command) → after_condition c (inner a) (fixed w) ≡ want_command (body a))
      → ((b : Sen Name command) → ◌≡◌ {A = Around command → Lexeme → State} (λ a. after_command b (body a)) (after_command (makes b)))
      → (code_of w ≡ 0 → ⊥)
      → {n : code.Lexeme} → Met text m n w
      → Leads text l n (suc allow) (command_from (λ a. want_condition (inner a))) allow command_way makes
  unfolding verdict
  body_leads inner body makes w d d' to stops on_it met =
      crosses p.stands body (omega (arith, p.later)) (comes_within inner (λ a. rw (d a) (omega arith)) (comes p)) (told_fixed p.stands w met.number) (going m met.number on_it) met.follows (λ a. rw (d' a) (omega arith)) to (λ a. rw (d' a) (omega arith)) stops

  pub guarded_leads : (again : Bool) {n : code.Lexeme} → Met text m n (before_body again) → Leads text l n (suc allow) (guarded_way again) allow command_way (guarded again c)
  unfolding depth after_condition after_command on is code_of want_guarded before_body guarded
  guarded_leads true = body_leads in_while (in_while_body c) (while c) DO (λ a. refl) (λ a. refl) (λ a. refl) (λ b. refl) (λ z. omega arith)
  guarded_leads false = body_leads in_when (in_when_body c) (when c) THEN (λ a. refl) (λ a. refl) (λ a. refl) (λ b. refl) (λ z. omega arith)

module _ {text : List ℕ} {l : code.Lexeme} (allow : ℕ) (c : Sen Name condition) (w : Walk) {e : Refused} (p : Passes condition_way text l w.next allow c) where
  unled : (inner : Around command → Around condition) (f : Fixed)
      → ((a : Around command) → depth (inner a) ≡ suc (depth a))
      → ((a : Around command) (x : Lexeme) → is f x ≡ false → after_condition c (inner a) x ≡ nowhere)
      → (code_of f ≡ 0 → ⊥)
      → Expects text w (code_of f) (Err e)
      → Refuses (λ a. want_condition (inner a)) text l (suc allow) e.why e.place
  unled inner f d to n x = refuses (comes_stuck (comes_within inner (λ a. rw (d a) (omega arith)) (comes p)) (unmet w f n p.stands (λ a. after_condition c (inner a)) to x))

  pub no_body : (again : Bool) → Expects text w (code_of (before_body again)) (Err e) → Refuses (want_guarded again) text l (suc allow) e.why e.place
  unfolding depth after_condition on want_guarded before_body code_of
  no_body true = unled in_while DO (λ a. refl) (λ a x h. rw h) (λ z. omega arith)
  no_body false = unled in_when THEN (λ a. refl) (λ a x h. rw h) (λ z. omega arith)

module _ {text : List ℕ} {l : code.Lexeme} {allow : ℕ} where
  pub guarded_refused : (again : Bool) {why : Refusal} {p : ℕ} → Refuses condition_way.start text l allow why p → Refuses (want_guarded again) text l (suc allow) why p
  unfolding depth want_guarded
  guarded_refused true = refuses_within in_while (λ a. omega arith)
  guarded_refused false = refuses_within in_when (λ a. omega arith)

  pub block_first : Leads text l l (suc allow) block_so_far allow command_way single
  unfolding depth after_command
  block_first = begins_with text l (suc allow) block_so_far allow command_way single in_block (λ a. omega arith) refl (λ m. refl)

module _ {text : List ℕ} {l m : code.Lexeme} (allow : ℕ) (ms : Sen Name commands) (p : Passes block_so_far text l m (suc allow) ms) where
  pub block_more : (fixed_number m.kind ≡ code_of close_brace → ⊥) → Leads text l m (suc allow) block_so_far allow command_way (then ms)
  unfolding depth step at_command_or_brace after_command on
  block_more h =
      leads (in_block_after ms) (omega (arith, p.later)) (λ a. omega arith)
      (comes_on (comes p) (alike text m (at_command_or_brace ms) (λ a. step (want_command (in_block_after ms a))) (λ a. rw (no_fixed p.stands close_brace h))))
      (λ b. refl)

  module _ (h : fixed_number m.kind ≡ code_of close_brace) where
    pub block_closed : {n : code.Lexeme} → Follows text m n → Passes block_way text l n (suc allow) (block ms)
    unfolding step at_command_or_brace on is code_of verdict
    block_closed next =
        passes (omega (arith, p.later, p.stands.order, next.later)) next.stands
        (comes_on (comes p) (onward text m (at_command_or_brace ms) (going m h (λ z. omega arith)) next (got_command (block ms)) (λ a. rw (told_fixed p.stands close_brace h)) (λ a. omega arith)))

    pub block_lost : {e : Refused} → Lost text m e → Refuses block_way.start text l (suc allow) e.why e.place
    unfolding code_of
    block_lost e = refuses (comes_stuck (comes p) (lost text m (at_command_or_brace ms) (going m h (λ z. omega arith)) e))

-- ---- a command by its first lexeme

module _ {text : List ℕ} {l : code.Lexeme} (s : Stands text l) where
  pub error_read : {m : code.Lexeme} (allow : ℕ) → fixed_number l.kind ≡ code_of ERROR → Follows text l m → Passes command_way text l m allow error
  unfolding step at_command on is on_name code_of
  error_read allow h next = ends_command s allow want_command error (going l h (λ z. omega arith)) next (λ a. rw (told_fixed s ERROR h))

  -- the lexeme begins a command, and opens so many nestings: what is wanted after it
  pub record Starts (deeper : ℕ) (start : Around command → State) : Type 0 where
    pub goes : Ends l → ⊥
    pub to : (a : Around command) → at_command a (told text l) ≡ start a
    pub deep : (a : Around command) → verdict (start a) ≡ goes_on (depth a + deeper)

  begins_fixed : (w : Fixed) (deeper : ℕ) (start : Around command → State) → fixed_number l.kind ≡ code_of w → (code_of w ≡ 0 → ⊥) → ((a : Around command) → at_command a (fixed w) ≡ start a) → ((a : Around command) → verdict (start a) ≡ goes_on (depth a + deeper)) → Starts deeper start
  begins_fixed w deeper start h g t d = record { goes = going l h g; to = λ a. rw (told_fixed s w h) (t a); deep = d }

  pub begins_assign : l.kind ≡ kind.Name → Starts 0 (want_becomes (name_of text l))
  unfolding at_command on is on_name verdict
  begins_assign h = record { goes = name_goes l h; to = λ a. rw (told_name text l h); deep = λ a. rw add-zero }

  pub begins_declare : fixed_number l.kind ≡ code_of INT → Starts 0 want_declared
  unfolding is at_command on on_name code_of verdict
  begins_declare h = begins_fixed INT 0 want_declared h (λ z. omega arith) (λ a. refl) (λ a. rw add-zero)

  pub begins_print : fixed_number l.kind ≡ code_of PRINTI → Starts 0 (λ a. want_expression (in_print a))
  unfolding is at_command on on_name code_of verdict depth
  begins_print h = begins_fixed PRINTI 0 (λ a. want_expression (in_print a)) h (λ z. omega arith) (λ a. refl) (λ a. rw add-zero)

  pub begins_line : fixed_number l.kind ≡ code_of PRINTLNS → Starts 0 (want_quoted true)
  unfolding is at_command on on_name code_of verdict want_quoted
  begins_line h = begins_fixed PRINTLNS 0 (want_quoted true) h (λ z. omega arith) (λ a. refl) (λ a. rw add-zero)

  pub begins_string : fixed_number l.kind ≡ code_of PRINTS → Starts 0 (want_quoted false)
  unfolding is at_command on on_name code_of verdict want_quoted
  begins_string h = begins_fixed PRINTS 0 (want_quoted false) h (λ z. omega arith) (λ a. refl) (λ a. rw add-zero)

  pub begins_read : fixed_number l.kind ≡ code_of READ → Starts 0 want_read
  unfolding is at_command on on_name code_of verdict
  begins_read h = begins_fixed READ 0 want_read h (λ z. omega arith) (λ a. refl) (λ a. rw add-zero)

  pub begins_nested : has_body (fixed_number l.kind) ≡ true → Starts 1 (want_nested (fixed_number l.kind))
  unfolding has_body is at_command on on_name code_of verdict depth want_guarded want_nested
  begins_nested h = elim (either (fixed_number l.kind) (code_of IF) _ h) [
    | inl e ↦ rw e (begins_fixed IF 1 (want_guarded false) e (λ z. omega arith) (λ a. refl) (λ a. rw add-one))
    | inr g ↦ elim (either (fixed_number l.kind) (code_of WHILE) _ g) [
      | inl e ↦ rw e (begins_fixed WHILE 1 (want_guarded true) e (λ z. omega arith) (λ a. refl) (λ a. rw add-one))
      | inr e ↦ let o = eqb-true (fixed_number l.kind) (code_of open_brace) e in rw o (begins_fixed open_brace 1 (λ a. want_command (in_block a)) o (λ z. omega arith) (λ a. refl) (λ a. rw add-one))
    ]
  ]

  module _ {deeper : ℕ} {start : Around command → State} (b : Starts deeper start) where
    pub begun_leads : {m : code.Lexeme} {allow allow' : ℕ} → deeper ≤ allow → allow' ≡ allow → Follows text l m → Leads text l m allow command_way allow' (command_from start) (λ m. m)
    unfolding step
    begun_leads d e next = crosses s (λ a. a) (le_refl l.place) stays refl b.goes next (λ a. omega arith) b.to (λ a. rw (b.deep a) (omega arith)) (λ m. refl)

    pub too_deep_begun : {allow : ℕ} → allow < deeper → Refuses command_way.start text l allow TooDeep l.place
    unfolding step
    too_deep_begun {allow} d = refuses (too_deep text l (λ a. step (want_command a)) start b.to (λ a. rw (b.deep a) (omega arith)))

  pub no_command : (allow : ℕ) → (l.kind ≡ kind.Name → ⊥)
      → (fixed_number l.kind ≡ code_of ERROR → ⊥) → (fixed_number l.kind ≡ code_of INT → ⊥) → (fixed_number l.kind ≡ code_of PRINTI → ⊥) → (fixed_number l.kind ≡ code_of PRINTLNS → ⊥) → (fixed_number l.kind ≡ code_of PRINTS → ⊥) → (fixed_number l.kind ≡ code_of READ → ⊥)
      → has_body (fixed_number l.kind) ≡ false
      → Refuses command_way.start text l allow NoProgram l.place
  unfolding step at_command on code_of has_body
  no_command allow n e i p q t g o =
      let n₁ = (or-eq-false-eq-eq-false-and-eq-false (eqb (fixed_number l.kind) (code_of IF)) _).0 o in
      let n₂ = (or-eq-false-eq-eq-false-and-eq-false (eqb (fixed_number l.kind) (code_of WHILE)) _).0 n₁.1 in
      no_command_from s allow want_command
      (λ a. rw (no_fixed s PRINTI p, no_fixed s PRINTLNS q, no_fixed s PRINTS t, no_fixed s INT i, no_fixed s READ g, no_name text l n, no_fixed s ERROR e, no_fixed s WHILE (eqb-false _ _ n₂.0), no_fixed s IF (eqb-false _ _ n₁.0), no_fixed s open_brace (eqb-false _ _ n₂.1)))

-- ---- a Program

module _ {text : List ℕ} {l m : code.Lexeme} (limit : ℕ) (s : Stands text l) (met : Met text l m DO) where
  begun : Comes text l m (λ (i : Unit {0}). limit) (λ i. step want_DO) (λ i. step (want_command in_program))
  unfolding step on is code_of verdict depth
  begun = onward text l (λ i. step want_DO) (going l met.number (λ z. omega arith)) met.follows (λ i. want_command in_program) (λ i. rw (told_fixed s DO met.number)) (λ i. omega arith)

  pub program_refused : {why : Refusal} {p : ℕ} → Refuses command_way.start text m limit why p → (ls : List Placed) → Ahead text l ls → read limit ls ≡ refused why p
  unfolding read depth
  program_refused q ls h =
      from_via limit want_DO h
      ∙ (comes_stuck begun (stuck_within (λ i. in_program) (λ i. omega arith) (stuck q))).same ls h tt

  module _ (c : Sen Name command) {n : code.Lexeme} (p : Passes command_way text m n limit c) where
    read_to : Comes text l n (λ (i : Unit {0}). limit) (λ i. step want_DO) (λ i. after_command c in_program)
    unfolding depth
    read_to = comes_on begun (comes_within (λ i. in_program) (λ i. omega arith) (comes p))

    pub program_read : Ends n → fixed_number n.kind ≡ code_of end → (ls : List Placed) → Ahead text l ls → read limit ls ≡ given c
    unfolding read after_command on is code_of
    program_read last z ls h =
        let a = read_to.same ls h in
        from_via limit want_DO h ∙ a.2 tt ∙ ended limit (after_command c in_program) c last (rw (told_fixed p.stands end z)) a.0 a.1

    pub program_unended : (fixed_number n.kind ≡ code_of end → ⊥) → (ls : List Placed) → Ahead text l ls → read limit ls ≡ refused NoProgram n.place
    unfolding read after_command on
    program_unended z ls h =
        from_via limit want_DO h
        ∙ (comes_stuck read_to (none text n (λ i. after_command c in_program) (λ i. rw (no_fixed p.stands end z)))).same ls h tt

pub no_program : {text : List ℕ} (limit : ℕ) (w : Walk) {e : Refused} → Stands text w.next → Expects text w (code_of DO) (Err e) → (ls : List Placed) → Ahead text w.next ls → read limit ls ≡ refused e.why e.place
unfolding read step on code_of
no_program {text} limit w {e} s x ls h =
    let st : Stuck text w.next (λ (i : Unit {0}). limit) (λ i. step want_DO) e.why e.place = unmet w DO (λ z. omega arith) s (λ i. step want_DO) (λ i x g. rw g) x in
    from_via limit want_DO h ∙ st.same ls h tt
