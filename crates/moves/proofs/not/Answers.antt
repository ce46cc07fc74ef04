-- `not` meets its contract. Assumes nothing.
use Rattle.std.proofs.Common.{arith, rules, ◌-◌, pos, length, get_or, length-take, ℤ}
use mir.Syntax.{w32}
use mir.Val.{SFits}
use mir.Facts.{to_z-of_z}
use Rattle.numbers.specs.Numbers.{negation}
use Rattle.numbers.proofs.Signed.{zero_test}
use Rattle.moves.specs.inner.Moves.{not_move}
use Rattle.moves.proofs.not.Goals as goal

pub returns : goal.returns
unfolding not_move negation
returns c =
    let live = c.args.live.now in
    let f : SFits w32 (get_or live (length live - 1) (pos 0)) = search rules in
    let z = zero_test _ f in
    grind (arith, to_z-of_z, length-take {A = ℤ}, c.truth.ensures, z)
