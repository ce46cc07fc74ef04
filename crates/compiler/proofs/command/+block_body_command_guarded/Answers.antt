-- The readers of commands with bodies meet their contracts. A nesting less is allowed inside, so the calls end. Assumes nothing.
use Prim.Native.Nat.{ℕ, suc, ◌-◌, max}
use mathlib.Core.Bool.{Bool}
use mathlib.Core.List.{List}
use lib.IntN.{ℤ}
use mathlib.Core.Path.{◌≡◌, sym, ◌∙◌}
use native.Mathlib.Omega.{arith}
use Rattle.std.proofs.lemmas.Grind.{common_steps}
use Rattle.lexeme.specs.inner.Coded.{code_of}
use Rattle.names.specs.inner.Held.{opened_in}
use Rattle.instruction.specs.Instructions.{encode}
use Rattle.compiler.specs.declared.walk.Walk.{Walk}
use Rattle.compiler.specs.inner.Steps.{moved_to, one_instruction, Past, Crossed, before_body}
use Rattle.compiler.specs.inner.Walks.{Ready, First, Got, want_nested, condition_way, command_way, guarded_way, block_way}
use Rattle.compiler.proofs.Bodies.{lost_ahead, ready_first, reads_begun, ready_inside, Headed, head_small, ready_headed, body_leads, Bodied, body_small, end_small, guarded_read, so_far_closed, so_far_more}
use Rattle.compiler.proofs.Commands.{guarded_refused, no_body, block_first, block_more, block_lost, begins_nested, too_deep_begun}
use Rattle.compiler.proofs.Looked.{met_ahead, not_met}
use Rattle.compiler.proofs.Lays.{lays_single}
use Rattle.compiler.proofs.Names.{operand_is, ready_opened}
use Rattle.compiler.proofs.Replies.{led, passed_on, code_fits, ready_got}
use Rattle.compiler.proofs.command.+block_body_command_guarded.Goals as goal

-- the walk after the first lexeme of a command
first_passed : {text names : List ℕ} {w x : Walk} {allow : ℕ} → Ready text names w allow → Past text w x → First text names w allow x
first_passed ready past = record { ready = ready; past = past }

-- which is where it stood before, but for the lexeme ahead
whole : {text names : List ℕ} {w x : Walk} {allow : ℕ} → First text names w allow x → moved_to x w.next ≡ w
unfolding moved_to
whole f = rw f.past.moved

-- the condition, and the lexeme before the body
headed : {again : Bool} {text names : List ℕ} {table table₁ : List ℤ} {w c x : Walk} {g : ℕ} {allow : ℕ} → Ready text names w (suc allow) → Got condition_way text names table w allow names table₁ c g → Crossed text c (code_of (before_body again)) x → Headed again text names table w allow table₁ c g x
headed ready test then = record { ready = ready; test = test; then = then }

-- and the body
bodied : {again : Bool} {text names inside : List ℕ} {table table₁ table₂ : List ℤ} {w c x y : Walk} {g h : ℕ} {allow : ℕ} → Headed again text names table w allow table₁ c g x → Got command_way text (opened_in names) table₁ (one_instruction x) allow inside table₂ y h → Bodied again text names table w allow c g inside table₂ y h
bodied head body = record { table₁ = _; x = _; head = head; body = body }

pub block-command-requires : goal.block-command-requires
block-command-requires t c = (omega arith, rw c.open.ensures (ready_opened c.requires))

pub block-returns-in_err-so_far : goal.block-returns-in_err-so_far
block-returns-in_err-so_far t c = passed_on block_way _ _ _ _ _ _ _ _ c.from_residual.ensures.1 (block_first.refuses c.in_err-so_far.ensures)

pub block-loop-names-init : goal.block-loop-names-init
block-loop-names-init t c = let q = rw c.open.ensures at c.in_ok-so_far.ensures in led block_first q (lays_single q.laid)

pub block-command-requires-in-loop-names : goal.block-command-requires-in-loop-names
block-command-requires-in-loop-names t c = (omega arith, ready_got (ready_opened c.requires) c.loop-names.invariant)

pub block-returns-in_err-r : goal.block-returns-in_err-r
unfolding code_of
block-returns-in_err-r t c = let g = c.loop-names.invariant in passed_on block_way _ _ _ _ _ _ _ _ c.from_residual-in_err-r.ensures.1 ((block_more _ g.what g.passed (not_met c.is_ahead.ensures c.loop-names-test.true)).refuses c.in_err-r.ensures)

pub block-loop-names-smaller : goal.block-loop-names-smaller
block-loop-names-smaller t c = let p = c.in_ok-r.ensures.passed in omega (arith, p.later, p.stands.order, p.stands.within)

pub block-loop-names-preserved : goal.block-loop-names-preserved
unfolding code_of
block-loop-names-preserved t c = let e : c.max.result ≡ max c.loop-names.so_far.need c.in_ok-r.r.need = grind (arith, common_steps) in rw e (so_far_more c.loop-names.invariant (not_met c.is_ahead.ensures c.loop-names-test.true) c.in_ok-r.ensures)

pub block-advance-requires : goal.block-advance-requires
block-advance-requires t c = c.loop-names.invariant.passed.stands.within

pub block-returns-in_err-advance : goal.block-returns-in_err-advance
unfolding code_of
block-returns-in_err-advance t c = let g = c.loop-names.invariant in passed_on block_way _ _ _ _ _ _ _ _ c.from_residual-in_err-advance.ensures.1 (block_lost _ g.what g.passed (met_ahead c.is_ahead.ensures c.loop-names-test.false) c.in_err-advance.ensures)

pub block-returns : goal.block-returns
unfolding code_of
block-returns t c = rw (c.close.ensures, c.counts-before.ensures) (so_far_closed c.requires c.loop-names.invariant (met_ahead c.is_ahead.ensures c.loop-names-test.false) c.in_ok-advance.ensures)

pub body-command-r-requires : goal.body-command-r-requires
body-command-r-requires t c = (omega arith, rw c.open.ensures (ready_opened c.requires))

pub body-returns : goal.body-returns
body-returns t c = (_, rw c.open.ensures at c.command-r.ensures, rw c.counts-outside.ensures at c.close.ensures)

pub command-advance-requires : goal.command-advance-requires
command-advance-requires t c = c.requires.stands.within

pub command-returns-in_err-x : goal.command-returns-in_err-x
command-returns-in_err-x t c = passed_on command_way _ _ _ _ _ _ _ _ c.from_residual.ensures.1 (lost_ahead c.requires.stands c.in_err-x.ensures)

pub command-without_body-requires-clause-first : goal.command-without_body-requires-clause-first
command-without_body-requires-clause-first t c = let f = first_passed c.requires c.in_ok-x.ensures in rw (whole f) f

pub command-returns-then-not-has_body : goal.command-returns-then-not-has_body
command-returns-then-not-has_body t c = rw (whole (first_passed c.requires c.in_ok-x.ensures)) at c.without_body.ensures

pub command-returns-then-allow-eq0 : goal.command-returns-then-allow-eq0
command-returns-then-allow-eq0 t c = rw c.refused_ahead.ensures (too_deep_begun _ (begins_nested c.requires.stands (sym c.has_body.ensures ∙ c.if-not-has_body.false)) (omega (arith, c.if-allow-eq0.true)))

pub command-block-requires : goal.command-block-requires
command-block-requires t c = (omega (arith, c.if-allow-eq0.false), ready_first (first_passed c.requires c.in_ok-x.ensures) (omega (arith, c.if-allow-eq0.false)))

pub command-returns-then-is_ahead : goal.command-returns-then-is_ahead
unfolding first_passed want_nested code_of
command-returns-then-is_ahead t c = reads_begun (first_passed c.requires c.in_ok-x.ensures) (begins_nested c.requires.stands (sym c.has_body.ensures ∙ c.if-not-has_body.false)) {allow' = suc (c.args.allow - 1)} _ _ _ _ (omega (arith, c.if-allow-eq0.false)) (omega (arith, c.if-allow-eq0.false)) (rw (met_ahead c.is_ahead.ensures c.if-is_ahead.true) c.block.ensures)

pub command-guarded-requires : goal.command-guarded-requires
command-guarded-requires t c = (omega (arith, c.if-allow-eq0.false), ready_first (first_passed c.requires c.in_ok-x.ensures) (omega (arith, c.if-allow-eq0.false)))

pub command-returns : goal.command-returns
unfolding first_passed want_nested code_of
command-returns t c = reads_begun (first_passed c.requires c.in_ok-x.ensures) (begins_nested c.requires.stands (sym c.has_body.ensures ∙ c.if-not-has_body.false)) {allow' = suc (c.args.allow - 1)} _ _ _ _ (omega (arith, c.if-allow-eq0.false)) (omega (arith, c.if-allow-eq0.false)) (rw (sym c.is_ahead.ensures ∙ c.if-is_ahead.false) (rw c.is_ahead-2.ensures at c.guarded.ensures))

pub guarded-condition-requires : goal.guarded-condition-requires
guarded-condition-requires t c = ready_inside c.requires

pub guarded-returns-in_err-test : goal.guarded-returns-in_err-test
guarded-returns-in_err-test t c = passed_on (guarded_way _) _ _ _ _ _ _ _ _ c.from_residual.ensures.1 (guarded_refused _ c.in_err-test.ensures)

pub guarded-expect-requires : goal.guarded-expect-requires
guarded-expect-requires t c = c.in_ok-test.ensures.passed.stands.within

pub guarded-returns-in_err-x : goal.guarded-returns-in_err-x
unfolding code_of
guarded-returns-in_err-x t c = let g = c.in_ok-test.ensures in passed_on (guarded_way _) _ _ _ _ _ _ _ _ c.from_residual-in_err-x.ensures.1 (no_body _ g.what c.in_ok-test.test.walk g.passed _ (rw c.before_body.ensures at c.in_err-x.ensures))

pub guarded-skipped-requires : goal.guarded-skipped-requires
unfolding code_of
guarded-skipped-requires t c = head_small (headed c.requires c.in_ok-test.ensures (rw c.before_body.ensures at c.in_ok-x.ensures))

pub guarded-body-requires : goal.guarded-body-requires
unfolding code_of
guarded-body-requires t c = (omega arith, rw c.skipped.ensures (ready_headed (headed c.requires c.in_ok-test.ensures (rw c.before_body.ensures at c.in_ok-x.ensures))))

pub guarded-returns-in_err-inside : goal.guarded-returns-in_err-inside
unfolding one_instruction code_of
guarded-returns-in_err-inside t c = passed_on (guarded_way _) _ _ _ _ _ _ _ _ c.from_residual-in_err-inside.ensures.1 ((body_leads (headed c.requires c.in_ok-test.ensures (rw c.before_body.ensures at c.in_ok-x.ensures))).refuses (rw c.skipped.ensures at c.in_err-inside.ensures.1))

pub guarded-ended-end-requires : goal.guarded-ended-end-requires
unfolding code_of
guarded-ended-end-requires t c = (body_small (bodied (headed c.requires c.in_ok-test.ensures (rw c.before_body.ensures at c.in_ok-x.ensures)) (rw c.skipped.ensures at c.in_ok-inside.ensures.1)), code_fits c.requires)

pub guarded-returns : goal.guarded-returns
unfolding encode code_of
guarded-returns t c =
    let e : c.max.result ≡ max c.in_ok-test.test.need c.in_ok-inside.inside.need = grind (arith, common_steps) in
    let b = bodied (headed c.requires c.in_ok-test.ensures (rw c.before_body.ensures at c.in_ok-x.ensures)) (rw c.skipped.ensures at c.in_ok-inside.ensures.1) in
    rw (c.put_jump_if_false.ensures, c.ended-end.ensures.0, c.ended-end.ensures.1, operand_is _ (end_small b), e, c.in_ok-inside.ensures.2)
    (guarded_read b)
