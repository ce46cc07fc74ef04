-- How factors, terms, expressions and conditions are read: a law for each way that their readers come to an answer. Assumes nothing.
use mathlib.Core.Path.{◌≡◌, refl}
use mathlib.Core.List.{List}
use mathlib.Core.Bool.{false}
use Prim.Native.Nat.{ℕ, ◌+◌, ◌-◌}
use native.Mathlib.Nat.{le_refl}
use native.Mathlib.Omega.{arith}
use borrow.Author.Tests.{lt-ltb}
use Rattle.base.specs.declared.Refusal.{Refusal}
use Rattle.base.specs.declared.Refusal.TheVariants.{NoProgram, TooDeep}
use Rattle.base.specs.declared.Refused.{Refused}
use Rattle.std.specs.Prelude.{Err}
use Rattle.lexeme.specs.Lexemes.{Name, open_round, close_round, NOT}
use Rattle.lexeme.specs.inner.Coded.{code_of, fixed_number, Ends, Stands}
use Rattle.lexeme.specs.declared.Kind.TheVariants as kind
use Rattle.lexeme.specs.declared.Lexeme as code
use Rattle.sentence.specs.Sentences.{Kind, Sen, factor, term, expression, condition, literal, variable, bracket, first, multiply, unsigned, signed, add, negated, compare}
use Rattle.sentence.proofs.Reader.{Around, State, depth, in_first, in_multiply, in_unsigned, in_signed, in_add, in_bracket, in_left, in_right, in_negated, want_factor, want_expression, want_condition, is, on, on_lit, on_name, got_factor, at_factor, at_expression, at_condition, after_condition, whole_expression, after_expression, whole_term, after_term, step, verdict}
use Rattle.sentence.proofs.Walk.{factor_open}
use Rattle.compiler.specs.declared.walk.Walk.{Walk}
use Rattle.compiler.specs.inner.Steps.{Lost, Follows, Expects}
use Rattle.tables.specs.inner.Tables.{operand_of}
use Rattle.compiler.specs.inner.Walks.{name_of, Passes, Refuses, factor_way, term_so_far, term_way, first_term_way, expression_way, condition_way, comparison_way}
use Rattle.compiler.proofs.Looked.{going, literal_goes, name_goes, told_literal, told_name, told_fixed, no_fixed, no_lit, no_name, signs, muls, rels, IsOne, is_none}
use Rattle.compiler.proofs.Reading.{Comes, comes_on, comes_stuck, comes_within, alike, onward, onward_number, none, too_deep, lost, comes, passes, stuck, stuck_within, refuses, Leads, leads, begins_with, refuses_within, Met, unmet, stays, crosses}

-- ---- factors

module _ {text : List ℕ} {l m : code.Lexeme} (s : Stands text l) (allow : ℕ) (next : Follows text l m) where
  -- what an operand holds of a literal is the literal, where it is a number
  pub literal_factor : (v : ℕ) → l.kind ≡ kind.Literal v → Passes factor_way text l m allow (literal (operand_of v))
  unfolding step at_factor on_lit operand_of
  literal_factor v h =
      passes (omega (arith, s.some (literal_goes l h), next.later)) next.stands
      (onward_number text l (λ a. at_factor a) (literal_goes l h) next (got_factor (literal (operand_of v))) (λ n a. rw (told_literal text l v h, lt-ltb v 2147483648 (omega (arith, n v h)))) (λ a. rw (factor_open (literal (operand_of v)) a) (omega arith)))

  pub variable_factor : l.kind ≡ kind.Name → Passes factor_way text l m allow (variable (name_of text l))
  unfolding step at_factor on_lit on_name
  variable_factor h =
      passes (omega (arith, s.some (name_goes l h), next.later)) next.stands
      (onward text l (λ a. at_factor a) (name_goes l h) next (got_factor (variable (name_of text l))) (λ a. rw (told_name text l h)) (λ a. rw (factor_open (variable (name_of text l)) a) (omega arith)))

module _ {text : List ℕ} {l : code.Lexeme} (s : Stands text l) (allow : ℕ) where
  pub no_factor : ((v : ℕ) → l.kind ≡ kind.Literal v → ⊥) → (l.kind ≡ kind.Name → ⊥) → (fixed_number l.kind ≡ code_of open_round → ⊥) → Refuses factor_way.start text l allow NoProgram l.place
  unfolding step at_factor on
  no_factor v n h = refuses (none text l (λ a. step (want_factor a)) (λ a. rw (no_lit text l v, no_name text l n, no_fixed s open_round h)))

  pub bracket_too_deep : fixed_number l.kind ≡ code_of open_round → allow ≡ 0 → Refuses factor_way.start text l allow TooDeep l.place
  unfolding step at_factor on on_lit on_name is code_of verdict depth
  bracket_too_deep h z =
      refuses
      (too_deep text l (λ a. step (want_factor a)) (λ a. want_expression (in_bracket a)) (λ a. rw (told_fixed s open_round h)) (λ a. omega arith))

  -- `(`, an expression, `)`: one nesting less is allowed inside
  module _ {m : code.Lexeme} (h : fixed_number l.kind ≡ code_of open_round) (z : allow ≡ 0 → ⊥) (then : Follows text l m) where
    opened : Comes text l m (λ (a : Around factor). depth a + allow) (λ a. step (want_factor a)) (λ a. step (want_expression (in_bracket a)))
    unfolding step at_factor on on_lit on_name is code_of verdict depth
    opened = onward text l (λ a. step (want_factor a)) (going l h (λ e. omega arith)) then (λ a. want_expression (in_bracket a)) (λ a. rw (told_fixed s open_round h)) (λ a. omega arith)

    pub bracket_refused : {why : Refusal} {p : ℕ} → Refuses expression_way.start text m (allow - 1) why p → Refuses factor_way.start text l allow why p
    unfolding depth
    bracket_refused q = refuses (comes_stuck opened (stuck_within in_bracket (λ a. omega arith) (stuck q)))

    module _ (e : Sen Name expression) {n : code.Lexeme} (p : Passes expression_way text m n (allow - 1) e) where
      to_close : Comes text l n (λ (a : Around factor). depth a + allow) (λ a. step (want_factor a)) (λ a. whole_expression e (in_bracket a))
      unfolding depth
      to_close = comes_on opened (comes_within in_bracket (λ a. omega arith) (comes p))

      pub bracket_closed : {q : code.Lexeme} → Met text n q close_round → Passes factor_way text l q allow (bracket e)
      unfolding whole_expression on is code_of
      bracket_closed met =
          passes (omega (arith, s.order, then.later, p.later, p.stands.order, met.follows.later)) met.follows.stands
          (comes_on to_close (onward text n (λ a. whole_expression e (in_bracket a)) (going n met.number (λ y. omega arith)) met.follows (got_factor (bracket e)) (λ a. rw (told_fixed p.stands close_round met.number)) (λ a. rw (factor_open (bracket e) a) (omega arith))))

    pub bracket_unclosed : (w : Walk) (e : Sen Name expression) → Passes expression_way text m w.next (allow - 1) e → {lost : Refused} → Expects text w (code_of close_round) (Err lost) → Refuses factor_way.start text l allow lost.why lost.place
    unfolding whole_expression on code_of
    bracket_unclosed w e p x = refuses (comes_stuck (to_close e p) (unmet w close_round (λ y. omega arith) p.stands (λ a. whole_expression e (in_bracket a)) (λ a y i. rw i) x))

-- ---- terms

pub term_first : (text : List ℕ) (l : code.Lexeme) (allow : ℕ) → Leads text l l allow term_so_far allow factor_way first
unfolding depth step got_factor
term_first text l allow = begins_with text l allow term_so_far allow factor_way first in_first (λ a. refl) refl (λ f. refl)

module _ {text : List ℕ} {l m : code.Lexeme} (allow : ℕ) (t : Sen Name term) (p : Passes term_so_far text l m allow t) where
  pub term_more : {n : code.Lexeme} (o : IsOne muls text m) → Follows text m n → Leads text l n allow term_so_far allow factor_way (multiply t o.which)
  unfolding depth step got_factor after_term verdict
  term_more o next = crosses p.stands (in_multiply t o.which) (omega (arith, p.later)) (comes p) o.told_so o.goes next (λ a. refl) (λ a. muls.such _ _ o.which) (λ a. omega arith) (λ f. refl)

  pub term_lost : {e : Refused} → IsOne muls text m → Lost text m e → Refuses term_so_far.start text l allow e.why e.place
  term_lost o e = refuses (comes_stuck (comes p) (lost text m (after_term t) o.goes e))

  pub term_whole : muls.test (fixed_number m.kind) ≡ false → Passes term_way text l m allow t
  unfolding after_term
  term_whole h = passes p.later p.stands (comes_on (comes p) (alike text m (after_term t) (whole_term t) (λ a. is_none muls p.stands h _ _)))

-- ---- expressions

module _ {text : List ℕ} {l : code.Lexeme} (s : Stands text l) (allow : ℕ) where
  pub unsigned_leads : signs.test (fixed_number l.kind) ≡ false → Leads text l l allow first_term_way allow term_way unsigned
  unfolding depth step at_expression whole_term
  unsigned_leads h =
      leads in_unsigned (le_refl l.place) (λ a. refl)
      (alike text l (λ a. step (want_expression a)) (λ a. step (want_factor (in_first (in_unsigned a)))) (λ a. is_none signs s h _ _))
      (λ t. refl)

  pub signed_leads : {m : code.Lexeme} (g : IsOne signs text l) → Follows text l m → Leads text l m allow first_term_way allow term_way (signed g.which)
  unfolding depth step at_expression whole_term verdict
  signed_leads g next = crosses s (in_signed g.which) (le_refl l.place) stays g.told_so g.goes next (λ a. refl) (λ a. signs.such _ _ g.which) (λ a. omega arith) (λ t. refl)

module _ {text : List ℕ} {l m : code.Lexeme} (allow : ℕ) (d : Sen Name expression) (p : Passes first_term_way text l m allow d) where
  pub expression_more : {n : code.Lexeme} (g : IsOne signs text m) → Follows text m n → Leads text l n allow first_term_way allow term_way (add d g.which)
  unfolding depth step after_expression whole_term verdict
  expression_more g next = crosses p.stands (in_add d g.which) (omega (arith, p.later)) (comes p) g.told_so g.goes next (λ a. refl) (λ a. signs.such _ _ g.which) (λ a. omega arith) (λ t. refl)

  pub expression_lost : {e : Refused} → IsOne signs text m → Lost text m e → Refuses first_term_way.start text l allow e.why e.place
  expression_lost g e = refuses (comes_stuck (comes p) (lost text m (after_expression d) g.goes e))

  pub expression_whole : signs.test (fixed_number m.kind) ≡ false → Passes expression_way text l m allow d
  unfolding after_expression
  expression_whole h = passes p.later p.stands (comes_on (comes p) (alike text m (after_expression d) (whole_expression d) (λ a. is_none signs p.stands h _ _)))

-- ---- conditions

module _ {text : List ℕ} {l : code.Lexeme} (s : Stands text l) (allow : ℕ) where
  pub negated_leads : {m : code.Lexeme} → fixed_number l.kind ≡ code_of NOT → (allow ≡ 0 → ⊥) → Follows text l m → Leads text l m allow condition_way (allow - 1) condition_way negated
  unfolding depth step at_condition on is code_of verdict after_condition
  negated_leads h z next = crosses s in_negated (le_refl l.place) stays (told_fixed s NOT h) (going l h (λ e. omega arith)) next (λ a. omega arith) (λ a. refl) (λ a. omega arith) (λ t. refl)

  pub negated_too_deep : fixed_number l.kind ≡ code_of NOT → allow ≡ 0 → Refuses condition_way.start text l allow TooDeep l.place
  unfolding depth step at_condition on is code_of verdict
  negated_too_deep h z =
      refuses
      (too_deep text l (λ a. step (want_condition a)) (λ a. want_condition (in_negated a)) (λ a. rw (told_fixed s NOT h)) (λ a. omega arith))

  pub comparison_leads : (fixed_number l.kind ≡ code_of NOT → ⊥) → Leads text l l allow condition_way allow comparison_way (λ c. c)
  unfolding depth step at_condition on
  comparison_leads h =
      leads (λ a. a) (le_refl l.place) (λ a. refl)
      (alike text l (λ a. step (want_condition a)) (λ a. step (want_expression (in_left a))) (λ a. rw (no_fixed s NOT h)))
      (λ t. refl)

module _ {text : List ℕ} {l m : code.Lexeme} (allow : ℕ) (d : Sen Name expression) (p : Passes expression_way text l m allow d) where
  left_side : Comes text l m (λ (a : Around condition). depth a + allow) (λ a. step (want_expression (in_left a))) (λ a. whole_expression d (in_left a))
  unfolding depth
  left_side = comes_within in_left (λ a. refl) (comes p)

  pub compare_leads : {n : code.Lexeme} (q : IsOne rels text m) → Follows text m n → Leads text l n allow comparison_way allow expression_way (compare d q.which)
  unfolding depth step whole_expression verdict
  compare_leads q next = crosses p.stands (in_right d q.which) (omega (arith, p.later)) left_side q.told_so q.goes next (λ a. refl) (λ a. rels.such _ _ q.which) (λ a. omega arith) (λ t. refl)

  pub compare_lost : {e : Refused} → IsOne rels text m → Lost text m e → Refuses comparison_way.start text l allow e.why e.place
  compare_lost q e = refuses (comes_stuck left_side (lost text m (λ a. whole_expression d (in_left a)) q.goes e))

  pub no_relation : rels.test (fixed_number m.kind) ≡ false → Refuses comparison_way.start text l allow NoProgram m.place
  unfolding whole_expression
  no_relation h =
      refuses
      (comes_stuck left_side (none text m (λ a. whole_expression d (in_left a)) (λ a. is_none rels p.stands h _ _)))

pub comparison_refused : {text : List ℕ} {l : code.Lexeme} {allow : ℕ} {why : Refusal} {p : ℕ} → Refuses expression_way.start text l allow why p → Refuses comparison_way.start text l allow why p
unfolding depth
comparison_refused = refuses_within in_left (λ a. refl)

-- ---- a lexeme that goes on, and nothing follows it

pub lost_first : {k : Kind} {start : Around k → State} {text : List ℕ} {l : code.Lexeme} {allow : ℕ} {e : Refused} → (Ends l → ⊥) → Lost text l e → Refuses start text l allow e.why e.place
lost_first {start} {text} {l} g e = refuses (lost text l (λ a. step (start a)) g e)
