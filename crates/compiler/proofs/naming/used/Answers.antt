-- `compiler::naming::used` meets its contract. Assumes nothing.
use mathlib.Core.Path.{◌∙◌}
use native.Mathlib.Omega.{arith}
use mir.Syntax.{w32}
use mir.Val.{SFits}
use mir.Facts.{to_z-of_z}
use borrow.Author.Rules.{rules}
use Rattle.compiler.specs.inner.Steps.{cell_of}
use Rattle.compiler.proofs.Names.{noted_is}
use Rattle.compiler.proofs.naming.used.Goals as goal

pub emitted-requires : goal.emitted-requires
emitted-requires c = rw (c.noted.ensures, noted_is) (omega arith)

pub returns : goal.returns
unfolding cell_of
returns c =
    let f : SFits w32 c.operand.result = search rules in (
      c.emitted.ensures.0 ∙ rw (c.noted.ensures, c.look_up-c.ensures),
      rw (to_z-of_z c.ranges.operation, to_z-of_z f, c.noted.ensures, noted_is, c.operand.ensures, c.look_up-c.ensures) at c.emitted.ensures.1,
    )
