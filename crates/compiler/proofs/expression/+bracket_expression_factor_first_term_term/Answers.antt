-- The readers of expressions, terms and factors meet their contracts. Assumes nothing.
use Prim.Native.Nat.{ℕ, ◌-◌, ◌<◌}
use mathlib.Core.Path.{◌≡◌, refl, sym, ap, subst, ◌∙◌}
use mathlib.Core.List.{List, [], ◌∷◌}
use native.Mathlib.Nat.{le_refl}
use native.Mathlib.Omega.{arith}
use borrow.Author.Rules.{rules}
use Rattle.std.specs.Prelude.{Some}
use mir.Syntax.{w32}
use mir.Facts.{to_z-of_z}
use lib.IntN.{ℤ, pos}
use Rattle.lexeme.specs.Lexemes.{Name, close_round, open_round}
use Rattle.lexeme.specs.inner.Coded.{number, code_of, kind_of, fixed_number}
use Rattle.lexeme.specs.declared.Fixed.{Fixed}
use Rattle.lexeme.specs.declared.Fixed.TheVariants as variant
use Rattle.lexeme.proofs.Decoded.{number_injective}
use Rattle.lexeme.specs.declared.Kind.TheVariants as kind
use Rattle.sentence.specs.Sentences as S
use Rattle.sentence.specs.Sentences.{Sen, Sign, plus, minus, sign}
use Rattle.sentence.proofs.Reader.{is_sign, is_mul}
use Rattle.sentence.proofs.Operators.{number_of}
use Rattle.compiler.specs.declared.walk.Walk.{Walk}
use Rattle.compiler.specs.inner.Steps.{moved_to, one_instruction, such_in, noted_walk, cell_of, cell_number, Past, Crossed}
use Rattle.tables.specs.inner.Tables.{put, operand_of}
use Rattle.compiler.specs.inner.Walks.{Ready, Lays, Got, name_of, factor_way, term_way, first_term_way, expression_way}
use Rattle.compiler.proofs.Lays.{trail, lead, lays_literal, lays_bracket, lays_first, lays_unsigned, lays_signed_plus, lays_signed_minus}
use Rattle.compiler.proofs.Names.{noted_is, lays_variable}
use Rattle.compiler.proofs.Looked.{met_ahead, not_met, such_one, no_such_one, no_other_sign, no_other_mul, going, literal_goes, name_goes, signs, IsOne, is_one}
use Rattle.compiler.proofs.Reading.{met}
use Rattle.compiler.proofs.Passes.{literal_factor, variable_factor, no_factor, bracket_too_deep, bracket_refused, bracket_closed, bracket_unclosed, term_first, term_whole, unsigned_leads, signed_leads, expression_whole, lost_first}
use Rattle.compiler.proofs.Replies.{led, led_followed, handed_on, passed_on, ready_past, ready_got, counts_got, term_joins, expression_joins, right_lost, right_leads, right_joined, right_less}
use Rattle.compiler.proofs.expression.+bracket_expression_factor_first_term_term.Goals as goal

-- an operand ahead: its instruction is written, and it is passed
module _ {text names : List ℕ} {table table' : List ℤ} {w x u : Walk} {allow : ℕ} (ready : Ready text names w allow) (past : Past text x u) where
  literal_read : {v : ℕ} {z : ℤ} → w.next.kind ≡ kind.Literal v → x ≡ one_instruction w → z ≡ pos (operand_of v) → table' ≡ put table w.code (pos 2 ∷ z ∷ []) → Got factor_way text names table w allow names table' u 1
  unfolding one_instruction
  literal_read {v} h e o t =
      let p = subst (λ (y : Walk). Past text y u) e past in
      record {
        what = S.literal (operand_of v);
        passed = literal_factor ready.stands allow p.follows v h;
        laid =
            subst (λ (y : Walk). Lays text names table w (S.literal (operand_of v)) names table' y 1) (sym p.moved)
            (rw (t, o) (lays_literal (operand_of v) u.next (omega (arith, ready.stands.some (literal_goes w.next h), p.follows.later)) ready.sound));
      }

  variable_read : w.next.kind ≡ kind.Name → let c = cell_of text names w.next in
      x ≡ one_instruction (noted_walk c w w.next.place) → table' ≡ put table w.code (pos 3 ∷ pos (cell_number c) ∷ []) → Got factor_way text names table w allow names table' u 1
  unfolding one_instruction
  variable_read h e t =
      let c = cell_of text names w.next in
      let p = subst (λ (y : Walk). Past text y u) e past in
      let f = rw (noted_is c w w.next.place) at p.follows in
      record {
        what = S.variable (name_of text w.next);
        passed = variable_factor ready.stands allow f h;
        laid =
            subst (λ (y : Walk). Lays text names table w (S.variable (name_of text w.next)) names table' y 1) (sym p.moved)
            (rw t (lays_variable u.next (omega (arith, ready.stands.some (name_goes w.next h), f.later)) ready.sound));
      }

-- `(` was read, an Expression, and `)`
bracket_read : {text names : List ℕ} {table table' : List ℤ} {w x v u : Walk} {n : ℕ} {allow : ℕ} → Ready text names w allow → (allow ≡ 0 → ⊥) → fixed_number w.next.kind ≡ code_of open_round → Past text w x → Got expression_way text names table x (allow - 1) names table' v n → Crossed text v (code_of close_round) u → Got factor_way text names table w allow names table' u n
bracket_read {text} {names} {table} {table'} {w} {x} {v} {u} {n} {allow} ready z h p b m =
    let l = subst (λ (y : Walk). Lays text names table y b.what names table' v n) p.moved b.laid in
    record {
      what = S.bracket b.what;
      passed = bracket_closed ready.stands allow h z p.follows b.what b.passed (met m);
      laid =
          subst (λ (y : Walk). Lays text names table w (S.bracket b.what) names table' y n) (sym m.past.moved)
          (trail u.next (omega (arith, b.passed.stands.order, m.past.follows.later)) (lays_bracket (lead x.next (omega (arith, ready.stands.order, p.follows.later)) l)));
    }

-- the numbers of the signs
plus_not_minus : number_of (sign plus) ≡ 45 → ⊥
unfolding sign kind_of fixed_number code_of
plus_not_minus e = omega arith

minus_number : number_of (sign minus) ≡ 45
unfolding sign kind_of fixed_number code_of
minus_number = refl

-- a Term after a sign
sign_ahead : {text names : List ℕ} {w : Walk} {allow : ℕ} {f : Fixed} → Ready text names w allow → such_in is_sign w.next.kind ≡ Some f → IsOne signs text w.next
sign_ahead ready h = is_one signs ready.stands (such_one is_sign _ h).1

module _ {text names : List ℕ} {table table' : List ℤ} {w x : Walk} {allow : ℕ} (ready : Ready text names w allow) (o : IsOne signs text w.next) (p : Past text w x) (b : Sen Name S.term) {v : Walk} {n : ℕ} (laid : Lays text names table x b names table' v n) where
  sign_later : w.next.place < x.next.place
  sign_later = omega (arith, ready.stands.some o.goes, p.follows.later)

  after_sign : Lays text names table (moved_to w x.next) b names table' v n
  after_sign = subst (λ (y : Walk). Lays text names table y b names table' v n) p.moved laid

  minus_lays : fixed_number w.next.kind ≡ 45 → Lays text names table w (S.signed o.which b) names (put table' v.code (pos 14 ∷ pos 0 ∷ [])) (one_instruction v) n
  unfolding one_instruction
  minus_lays h = by o.which (sym o.number ∙ h)
    where
      by : (s : Sign) → number_of (sign s) ≡ 45 → Lays text names table w (S.signed s b) names (put table' v.code (pos 14 ∷ pos 0 ∷ [])) (one_instruction v) n
      by plus e = absurd (plus_not_minus e)
      by minus e = lays_signed_minus x.next sign_later after_sign

  plus_lays : (fixed_number w.next.kind ≡ 45 → ⊥) → Lays text names table w (S.signed o.which b) names table' v n
  plus_lays h = by o.which (λ e. h (o.number ∙ e))
    where
      by : (s : Sign) → (number_of (sign s) ≡ 45 → ⊥) → Lays text names table w (S.signed s b) names table' v n
      by plus e = lays_signed_plus x.next sign_later after_sign
      by minus e = absurd (e minus_number)

pub bracket-returns-then-not-is_ahead : goal.bracket-returns-then-not-is_ahead
unfolding code_of
bracket-returns-then-not-is_ahead t c = rw c.refused_ahead.ensures (no_factor c.requires.ready.stands _ c.requires.no_operand.0 c.requires.no_operand.1 (not_met c.is_ahead.ensures c.if-not-is_ahead.true))

pub bracket-returns-then-allow-eq0 : goal.bracket-returns-then-allow-eq0
unfolding code_of
bracket-returns-then-allow-eq0 t c = rw c.refused_ahead-then-allow-eq0.ensures (bracket_too_deep c.requires.ready.stands _ (met_ahead c.is_ahead.ensures c.if-not-is_ahead.false) c.if-allow-eq0.true)

pub bracket-returns-in_err-x : goal.bracket-returns-in_err-x
unfolding code_of
bracket-returns-in_err-x t c = passed_on factor_way _ _ _ _ _ _ _ _ c.from_residual.ensures.1 (lost_first (going c.args.w.next (met_ahead c.is_ahead.ensures c.if-not-is_ahead.false) (λ z. omega arith)) c.in_err-x.ensures)

pub bracket-expression-requires : goal.bracket-expression-requires
bracket-expression-requires t c = (omega (arith, c.if-allow-eq0.false), ready_past c.requires.ready _ (omega arith) c.in_ok-x.ensures)

pub bracket-returns-in_err-r : goal.bracket-returns-in_err-r
unfolding code_of
bracket-returns-in_err-r t c = passed_on factor_way _ _ _ _ _ _ _ _ c.from_residual-in_err-r.ensures.1 (bracket_refused c.requires.ready.stands _ (met_ahead c.is_ahead.ensures c.if-not-is_ahead.false) c.if-allow-eq0.false c.in_ok-x.ensures.follows c.in_err-r.ensures)

pub bracket-returns-in_err-expect : goal.bracket-returns-in_err-expect
unfolding code_of
bracket-returns-in_err-expect t c = passed_on factor_way _ _ _ _ _ _ _ _ c.from_residual-in_err-expect.ensures.1 (bracket_unclosed c.requires.ready.stands _ (met_ahead c.is_ahead.ensures c.if-not-is_ahead.false) c.if-allow-eq0.false c.in_ok-x.ensures.follows c.in_ok-r.r.walk _ c.in_ok-r.ensures.passed c.in_err-expect.ensures)

pub bracket-returns : goal.bracket-returns
unfolding code_of
bracket-returns t c = bracket_read c.requires.ready c.if-allow-eq0.false (met_ahead c.is_ahead.ensures c.if-not-is_ahead.false) c.in_ok-x.ensures c.in_ok-r.ensures c.in_ok-expect.ensures

pub expression-returns : goal.expression-returns
expression-returns t c = let g = c.loop-f.invariant in record { what = g.what; passed = expression_whole _ g.what g.passed (no_such_one is_sign _ no_other_sign (sym c.sign_in.ensures ∙ c.in_default.is)); laid = g.laid }

pub expression-returns-in_err-x : goal.expression-returns-in_err-x
expression-returns-in_err-x t c = passed_on expression_way _ _ _ _ _ _ _ _ c.from_residual-in_err-x.ensures.1 (right_lost expression_joins c.loop-f.invariant (sym c.sign_in.ensures ∙ c.in-Some.is) c.in_err-x.ensures)

pub expression-term-requires : goal.expression-term-requires
expression-term-requires t c = (omega arith, ready_past (ready_got c.requires c.loop-f.invariant) _ (le_refl _) c.in_ok-x.ensures)

pub expression-returns-in_err-right : goal.expression-returns-in_err-right
expression-returns-in_err-right t c = passed_on expression_way _ _ _ _ _ _ _ _ c.from_residual-in_err-right.ensures.1 ((right_leads expression_joins c.loop-f.invariant (sym c.sign_in.ensures ∙ c.in-Some.is) c.in_ok-x.ensures).refuses c.in_err-right.ensures)

pub expression-joined-so_far-requires : goal.expression-joined-so_far-requires
expression-joined-so_far-requires t c = let k = counts_got (ready_past (ready_got c.requires c.loop-f.invariant) _ (le_refl _) c.in_ok-x.ensures) c.in_ok-right.ensures in record { code = k.0; need = k.1 }

pub expression-loop-f-smaller : goal.expression-loop-f-smaller
expression-loop-f-smaller t c = rw c.joined-so_far.ensures.value (right_less expression_joins c.loop-f.invariant (sym c.sign_in.ensures ∙ c.in-Some.is) c.in_ok-x.ensures c.in_ok-right.ensures)

pub expression-loop-f-preserved : goal.expression-loop-f-preserved
expression-loop-f-preserved t c = rw (c.joined-so_far.ensures.value, c.joined-so_far.ensures.table_after) (right_joined expression_joins c.loop-f.invariant (sym c.sign_in.ensures ∙ c.in-Some.is) c.in_ok-x.ensures c.in_ok-right.ensures)

pub factor-advance-requires : goal.factor-advance-requires
unfolding one_instruction
factor-advance-requires t c = rw c.emitted-x.ensures.0 c.requires.stands.within

pub factor-advance-requires-in-Name : goal.factor-advance-requires-in-Name
unfolding one_instruction
factor-advance-requires-in-Name t c = rw (c.used-x.ensures.0, noted_is) c.requires.stands.within

pub factor-returns-in_err-advance-in-Literal : goal.factor-returns-in_err-advance-in-Literal
unfolding one_instruction
factor-returns-in_err-advance-in-Literal t c = passed_on factor_way _ _ _ _ _ _ _ _ c.from_residual.ensures.1 (lost_first (literal_goes c.args.w.next c.in-Literal.is) (rw c.emitted-x.ensures.0 at c.in_err-advance-in-Literal.ensures))

pub factor-returns-in_err-advance-in-Name : goal.factor-returns-in_err-advance-in-Name
unfolding one_instruction
factor-returns-in_err-advance-in-Name t c = passed_on factor_way _ _ _ _ _ _ _ _ c.from_residual-in_err-advance-in-Name.ensures.1 (lost_first (name_goes c.args.w.next c.in-Name.is) (rw (c.used-x.ensures.0, noted_is) at c.in_err-advance-in-Name.ensures))

pub factor-returns-in_ok-advance-in-Literal : goal.factor-returns-in_ok-advance-in-Literal
factor-returns-in_ok-advance-in-Literal t c = literal_read c.requires c.in_ok-advance-in-Literal.ensures c.in-Literal.is c.emitted-x.ensures.0 (to_z-of_z {w = w32} (record { sfits = c.operand.type_inv }) ∙ c.operand.ensures) c.emitted-x.ensures.1

pub factor-returns-in_ok-advance-in-Name : goal.factor-returns-in_ok-advance-in-Name
factor-returns-in_ok-advance-in-Name t c = variable_read c.requires c.in_ok-advance-in-Name.ensures c.in-Name.is c.used-x.ensures.0 c.used-x.ensures.1

pub first_term-returns-in_default : goal.first_term-returns-in_default
first_term-returns-in_default t c = handed_on (unsigned_leads c.requires.stands _ (no_such_one is_sign _ no_other_sign (sym c.sign_in.ensures ∙ c.in_default.is))) (λ x v n l. lays_unsigned l) _ c.term.ensures

pub first_term-returns-in_err-x : goal.first_term-returns-in_err-x
first_term-returns-in_err-x t c = passed_on first_term_way _ _ _ _ _ _ _ _ c.from_residual.ensures.1 (lost_first (sign_ahead c.requires (sym c.sign_in.ensures ∙ c.in-Some.is)).goes c.in_err-x.ensures)

pub first_term-term-requires-2 : goal.first_term-term-requires-2
first_term-term-requires-2 t c = (omega arith, ready_past c.requires _ (le_refl _) c.in_ok-x.ensures)

pub first_term-returns-in_err-r : goal.first_term-returns-in_err-r
first_term-returns-in_err-r t c = passed_on first_term_way _ _ _ _ _ _ _ _ c.from_residual-in_err-r.ensures.1 ((signed_leads c.requires.stands _ (sign_ahead c.requires (sym c.sign_in.ensures ∙ c.in-Some.is)) c.in_ok-x.ensures.follows).refuses c.in_err-r.ensures)

pub first_term-followed-requires : goal.first_term-followed-requires
first_term-followed-requires t c = (counts_got (ready_past c.requires _ (le_refl _) c.in_ok-x.ensures) c.in_ok-r.ensures).0

pub first_term-returns-then-eq : goal.first_term-returns-then-eq
first_term-returns-then-eq t c =
    let o = sign_ahead c.requires (sym c.sign_in.ensures ∙ c.in-Some.is) in
    let p = c.in_ok-x.ensures in
    rw (c.followed.ensures.0, c.followed.ensures.1) (led_followed (signed_leads c.requires.stands _ o p.follows) c.in_ok-r.ensures (minus_lays c.requires o p _ c.in_ok-r.ensures.laid (let e : c.in-Some.f ≡ variant.Minus = search rules in sym (such_one is_sign _ (sym c.sign_in.ensures ∙ c.in-Some.is)).0 ∙ ap number e)))

pub first_term-returns : goal.first_term-returns
first_term-returns t c =
    let o = sign_ahead c.requires (sym c.sign_in.ensures ∙ c.in-Some.is) in
    let p = c.in_ok-x.ensures in
    led (signed_leads c.requires.stands _ o p.follows) c.in_ok-r.ensures (plus_lays c.requires o p _ c.in_ok-r.ensures.laid (λ z. let e : c.in-Some.f ≡ variant.Minus = number_injective _ _ ((such_one is_sign _ (sym c.sign_in.ensures ∙ c.in-Some.is)).0 ∙ z) in search rules))

pub term-returns-in_err-so_far : goal.term-returns-in_err-so_far
term-returns-in_err-so_far t c = passed_on term_way _ _ _ _ _ _ _ _ c.from_residual.ensures.1 ((term_first _ _ _).refuses c.in_err-so_far.ensures)

pub term-loop-f-init : goal.term-loop-f-init
term-loop-f-init t c = led (term_first _ _ _) c.in_ok-so_far.ensures (lays_first c.in_ok-so_far.ensures.laid)

pub term-returns : goal.term-returns
term-returns t c = let g = c.loop-f.invariant in record { what = g.what; passed = term_whole _ g.what g.passed (no_such_one is_mul _ no_other_mul (sym c.mul_in.ensures ∙ c.in_default.is)); laid = g.laid }

pub term-returns-in_err-x : goal.term-returns-in_err-x
term-returns-in_err-x t c = passed_on term_way _ _ _ _ _ _ _ _ c.from_residual-in_err-x.ensures.1 (right_lost term_joins c.loop-f.invariant (sym c.mul_in.ensures ∙ c.in-Some.is) c.in_err-x.ensures)

pub term-factor-requires-in-Some : goal.term-factor-requires-in-Some
term-factor-requires-in-Some t c = (omega arith, ready_past (ready_got c.requires c.loop-f.invariant) _ (le_refl _) c.in_ok-x.ensures)

pub term-returns-in_err-right : goal.term-returns-in_err-right
term-returns-in_err-right t c = passed_on term_way _ _ _ _ _ _ _ _ c.from_residual-in_err-right.ensures.1 ((right_leads term_joins c.loop-f.invariant (sym c.mul_in.ensures ∙ c.in-Some.is) c.in_ok-x.ensures).refuses c.in_err-right.ensures)

pub term-joined-so_far-requires : goal.term-joined-so_far-requires
term-joined-so_far-requires t c = let k = counts_got (ready_past (ready_got c.requires c.loop-f.invariant) _ (le_refl _) c.in_ok-x.ensures) c.in_ok-right.ensures in record { code = k.0; need = k.1 }

pub term-loop-f-smaller : goal.term-loop-f-smaller
term-loop-f-smaller t c = rw c.joined-so_far.ensures.value (right_less term_joins c.loop-f.invariant (sym c.mul_in.ensures ∙ c.in-Some.is) c.in_ok-x.ensures c.in_ok-right.ensures)

pub term-loop-f-preserved : goal.term-loop-f-preserved
term-loop-f-preserved t c = rw (c.joined-so_far.ensures.value, c.joined-so_far.ensures.table_after) (right_joined term_joins c.loop-f.invariant (sym c.mul_in.ensures ∙ c.in-Some.is) c.in_ok-x.ensures c.in_ok-right.ensures)
