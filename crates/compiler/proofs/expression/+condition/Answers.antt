-- `compiler::expression::condition` meets its contract. Assumes nothing.
use Prim.Native.Nat.{ℕ}
use mathlib.Core.Path.{◌≡◌, subst}
use mathlib.Core.List.{List, [], ◌∷◌}
use native.Mathlib.Nat.{le_refl}
use native.Mathlib.Omega.{arith}
use lib.IntN.{ℤ, pos}
use Rattle.lexeme.specs.Lexemes.{Name, NOT}
use Rattle.lexeme.specs.inner.Coded.{code_of, fixed_number}
use Rattle.sentence.specs.Sentences as S
use Rattle.sentence.specs.Sentences.{Sen, negated}
use Rattle.compiler.specs.declared.walk.Walk.{Walk}
use Rattle.compiler.specs.inner.Steps.{one_instruction, Past}
use Rattle.tables.specs.inner.Tables.{put}
use Rattle.compiler.specs.inner.Walks.{Ready, Lays, condition_way}
use Rattle.compiler.proofs.Lays.{lays_negated}
use Rattle.compiler.proofs.Looked.{going, met_ahead, not_met}
use Rattle.compiler.proofs.Passes.{comparison_leads, negated_leads, negated_too_deep, lost_first}
use Rattle.compiler.proofs.Replies.{led_followed, handed_on, passed_on, ready_past, counts_got}
use Rattle.compiler.proofs.expression.+condition.Goals as goal

-- NOT was passed, and a condition written
negated_lays : {text names : List ℕ} {table table' : List ℤ} {w x v : Walk} {n : ℕ} {allow : ℕ} → Ready text names w allow → fixed_number w.next.kind ≡ code_of NOT → Past text w x → (b : Sen Name S.condition) → Lays text names table x b names table' v n → Lays text names table w (negated b) names (put table' v.code (pos 15 ∷ pos 0 ∷ [])) (one_instruction v) n
unfolding one_instruction code_of
negated_lays {text} {names} {table} {table'} {w} {x} {v} {n} ready h p b l = lays_negated x.next (omega (arith, ready.stands.some (going w.next h (λ z. omega arith)), p.follows.later)) (subst (λ (y : Walk). Lays text names table y b names table' v n) p.moved l)

pub returns-then-not-is_ahead : goal.returns-then-not-is_ahead
unfolding code_of
returns-then-not-is_ahead t c = handed_on (comparison_leads c.requires.stands _ (not_met c.is_ahead.ensures c.if-not-is_ahead.true)) (λ x v n p. p) _ c.comparison.ensures

pub returns-then-allow-eq0 : goal.returns-then-allow-eq0
unfolding code_of
returns-then-allow-eq0 t c = rw c.refused_ahead.ensures (negated_too_deep c.requires.stands _ (met_ahead c.is_ahead.ensures c.if-not-is_ahead.false) c.if-allow-eq0.true)

pub returns-in_err-x : goal.returns-in_err-x
unfolding code_of
returns-in_err-x t c = passed_on condition_way _ _ _ _ _ _ _ _ c.from_residual.ensures.1 (lost_first (going c.args.w.next (met_ahead c.is_ahead.ensures c.if-not-is_ahead.false) (λ z. omega arith)) c.in_err-x.ensures)

pub condition-requires : goal.condition-requires
condition-requires t c = (omega (arith, c.if-allow-eq0.false), ready_past c.requires _ (omega arith) c.in_ok-x.ensures)

pub returns-in_err-r : goal.returns-in_err-r
unfolding code_of
returns-in_err-r t c = passed_on condition_way _ _ _ _ _ _ _ _ c.from_residual-in_err-r.ensures.1 ((negated_leads c.requires.stands _ (met_ahead c.is_ahead.ensures c.if-not-is_ahead.false) c.if-allow-eq0.false c.in_ok-x.ensures.follows).refuses c.in_err-r.ensures)

pub followed-requires : goal.followed-requires
followed-requires t c = (counts_got (ready_past c.requires _ (le_refl _) c.in_ok-x.ensures) c.in_ok-r.ensures).0

pub returns : goal.returns
unfolding code_of
returns t c =
    let h = met_ahead c.is_ahead.ensures c.if-not-is_ahead.false in
    rw (c.followed.ensures.0, c.followed.ensures.1) (led_followed (negated_leads c.requires.stands _ h c.if-allow-eq0.false c.in_ok-x.ensures.follows) c.in_ok-r.ensures (negated_lays c.requires h c.in_ok-x.ensures _ c.in_ok-r.ensures.laid))
