-- `jump_if_false` meets its contract. Assumes nothing.
use Rattle.std.proofs.Common.{arith, rules, ◌-◌, pos, length, get_or, length-take, ℤ}
use mir.Syntax.{w32}
use mir.Val.{SFits}
use Rattle.numbers.proofs.Signed.{zero_test}
use Rattle.moves.specs.inner.Moves.{jump_if_false_move}
use Rattle.moves.proofs.jump_if_false.Goals as goal

pub returns : goal.returns
unfolding jump_if_false_move
returns c =
    let live = c.args.live.now in
    let f : SFits w32 (get_or live (length live - 1) (pos 0)) = search rules in
    let z = zero_test _ f in
    grind (arith, length-take {A = ℤ}, z)
