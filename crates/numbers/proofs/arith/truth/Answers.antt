-- `arith::truth` meets its contract. Assumes nothing.
use mathlib.Core.Path.{◌≡◌, refl}
use mathlib.Core.Bool.{Bool, true, false}
use lib.IntN.{pos}
use mir.Syntax.{w32}
use mir.Val.{to_z, of_z, bool_byte}
use Rattle.numbers.specs.Numbers.{truth}
use Rattle.numbers.proofs.arith.truth.Goals as goal

each : (t : Bool) → to_z w32 (of_z w32 (pos (bool_byte t))) ≡ truth t
unfolding truth
each true = refl
each false = refl

pub returns : goal.returns
returns c = rw c.from.ensures (each c.args.t)
