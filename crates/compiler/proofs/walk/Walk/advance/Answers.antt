-- `compiler::walk::Walk::advance` meets its contract. Assumes nothing.
use mathlib.Core.Path.{refl}
use Rattle.lexeme.proofs.Places.{next_stands}
use Rattle.compiler.specs.inner.Steps.{moved_to}
use Rattle.compiler.proofs.walk.Walk.advance.Goals as goal

pub returns : goal.returns
unfolding moved_to
returns c =
    let s = next_stands _ _ _ c.requires c.in_ok-next.ensures in
    record { follows = record { read = c.in_ok-next.ensures; later = s.0; stands = s.1 }; moved = refl }
