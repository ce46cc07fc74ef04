-- `tidy::write` meets its contract: what stands in the room, with what is to come, is the tidy text. Assumes nothing.
use mathlib.Core.Path.{◌≡◌, refl, sym, ap, ◌∙◌}
use Prim.Native.Nat.{ℕ}
use native.Mathlib.Omega.{arith}
use Rattle.lexeme.specs.Lexemes.{next}
use Rattle.lexeme.specs.inner.Coded.{coded}
use Rattle.lexeme.proofs.Places.{next_stands}
use Rattle.tidy.proofs.Writing.{starts, never_refused, ended, stopped, goes}
use Rattle.tidy.proofs.write.Goals as goal
use Rattle.tidy.proofs.write.Goals.{In_ok-l}
use Rattle.std.specs.Prelude.{Ok}
use Rattle.std.proofs.Common.{rules}

-- the lexeme that stands next
here : (c : In_ok-l) → Ok c.in_ok-l.l ≡ coded (next c.args.text.now c.loop-l.at)
here c = search rules

pub loop-l-init : goal.loop-l-init
loop-l-init c = (omega arith, refl, λ l ls is a. starts _ _ ls (l, is, a))

-- no lexeme is refused, so the text has none that are to be copied
pub returns-in_err-l : goal.returns-in_err-l
returns-in_err-l c =
    let none = rw c.next.ensures at c.in_err-l.ensures.value in
    record { copies = λ l ls is a. absurd (never_refused _ _ ls (c.loop-l.invariant.2 l ls is a) none); long = c.loop-l.invariant.1 }

pub returns-then-eq : goal.returns-then-eq
returns-then-eq c = record { copies = λ l ls is a. ended _ _ ls (c.loop-l.invariant.2 l ls is a) _ (here (goal.at.returns-then-eq c).In_ok-l) (search rules); long = c.loop-l.invariant.1 }

pub returns-in_err-n : goal.returns-in_err-n
returns-in_err-n c =
    let put = rw c.copied.ensures at c.put.ensures in
    record { copies = λ l ls is a. rw (c.from_residual-in_err-n.ensures, ← c.in_err-n.was) (stopped _ _ ls (c.loop-l.invariant.2 l ls is a) _ (here (goal.at.returns-in_err-n c).In_ok-l) c.loop-l.invariant.0 (λ e. search rules) put c.in_err-n.was); long = put.long ∙ c.loop-l.invariant.1 }

pub loop-l-smaller : goal.loop-l-smaller
loop-l-smaller c =
    let s = next_stands _ _ _ c.loop-l.invariant.0 (here (goal.at.loop-l-smaller c).In_ok-l) in
    omega (arith, s.0, s.1.some (λ e. search rules), s.1.within)

pub loop-l-preserved : goal.loop-l-preserved
loop-l-preserved c =
    let put = rw c.copied.ensures at c.put.ensures in
    let is = here (goal.at.loop-l-preserved c).In_ok-l in
    ((next_stands _ _ _ c.loop-l.invariant.0 is).1.within, put.long ∙ c.loop-l.invariant.1, λ l ls first a. goes _ _ ls (c.loop-l.invariant.2 l ls first a) _ is c.loop-l.invariant.0 (λ e. search rules) put _ c.in_ok-n.was)
