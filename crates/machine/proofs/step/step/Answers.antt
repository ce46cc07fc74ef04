-- `step::step` meets its contract: what was decoded is what the rule does next. Assumes nothing.
use mathlib.Core.Path.{◌≡◌, sym}
use Prim.Native.Nat.{◌+◌, ◌/◌}
use native.Mathlib.Omega.{arith}
use borrow.Author.Tests.{le-ltb}
use lib.IntN.{pos}
use lib.ListN.{length, get_or}
use lib.Seq.{length-take-le}
use mir.Syntax.{w32}
use mir.Facts.{to_z-of_z}
use Rattle.std.specs.Prelude.{List, ℕ, ℤ, None}
use Rattle.std.proofs.lemmas.Grind.{common_steps}
use Rattle.endings.specs.Endings.{bad_code}
use Rattle.instruction.specs.inner.Coded.{as_instruction}
use Rattle.moves.specs.declared.State.{State}
use Rattle.moves.specs.inner.Moves.{as_led, stops, moves_to}
use Rattle.rules.specs.Machine as M
use Rattle.machine.specs.inner.Coded.{machine_of, Good}
use Rattle.machine.proofs.Performs.{performs}
use Rattle.machine.proofs.Steps.{placed, stopped, barred, also, fetches}
use Rattle.machine.proofs.step.step.Goals as goal
use Rattle.machine.proofs.step.step.Goals.{After-decode}

pub returns-then-lent-i : goal.returns-then-lent-i
unfolding M.step M.fetched M.pairs M.decoded
returns-then-lent-i c = λ room before g. stopped g _ 8 (rw (le-ltb (c.args.t.index / 2) (length c.args.lent.table.now / 2) (omega arith)))

-- the live cells that are handed on are as many as the depth
pub slice_bounds-perform-end : goal.slice_bounds-perform-end
slice_bounds-perform-end c = sym (length-take-le _ _ c.requires.deep)

-- what the run is lent, with a room of a size
abbrev given : After-decode → ℕ → M.Lent
given c room = record { text = c.args.lent.text.now; table = c.args.lent.table.now; readings = c.args.lent.readings.now; cells = c.args.lent.cells; room = room }

-- what was decoded at the index, done at the state past it, is what the rule does next
next : (c : After-decode) (room : ℕ) {before : List ℕ} → Good (given c room) before c.args.t c.args.stack.now c.args.out.now →
    M.decoded (given c room) (as_instruction c.decode.result) (machine_of (moves_to c.args.t (c.args.t.index + 2) c.args.t.depth) c.args.stack.now c.args.out.now) ≡ M.step (given c room) (machine_of c.args.t c.args.stack.now c.args.out.now)
next c room g =
    let table = c.args.lent.table.now in
    let decoded = rw (to_z-of_z {w = w32} {z = get_or table c.args.t.index (pos 0)} (record { sfits = c.decode-arg-1.given }), to_z-of_z {w = w32} (record { sfits = c.decode-arg-2-1.given })) at c.decode.ensures in
    fetches (given c room) c.decode.result c.args.t c.args.stack.now c.args.out.now g.whole c.if-lent-i.false c.requires.even decoded

-- the state past it
past : {lent : M.Lent} {before : List ℕ} {t : State} {cells : List ℤ} {room : List ℕ} → Good lent before t cells room → Good lent before (moves_to t (t.index + 2) t.depth) cells room
past g = placed g _ _ (omega (arith, g.whole)) g.deep

pub returns-in_err-o : goal.returns-in_err-o
returns-in_err-o c =
    let e : as_led c.from_residual.result ≡ stops bad_code = grind (arith, common_steps) in
    let none : c.decode.result ≡ None = c.in_err-o.ensures.ok_part in
    rw e (λ room before g. also (barred (past g)) (rw none at (next (goal.at.returns-in_err-o c).After-decode room g)))

pub returns : goal.returns
returns c = λ room before g.
    also (performs (past g) c.in_ok-o.o (sym g.stack) c.perform.ensures) (rw c.in_ok-o.ensures.ok_part at (next (goal.at.returns c).After-decode room g))
