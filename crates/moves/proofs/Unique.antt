-- What the code holds tells what instructions lead to apart, so that the contract of each leaves one answer. Assumes nothing.
use Rattle.std.specs.Prelude.{◌≡◌, Result, Ok, Err}
use Rattle.std.proofs.Common.{ap}
use Rattle.endings.specs.declared.Ending.{Ending}
use Rattle.endings.proofs.Unique.{one_ending}
use Rattle.moves.specs.inner.Moves.{as_led}
use Rattle.moves.specs.declared.Move.{Move}

pub one_led : (r s : Result Move Ending) → as_led r ≡ as_led s → r ≡ s
one_led (Ok m) (Ok n) h = cc
one_led (Ok m) (Err e) h = cc
one_led (Err e) (Ok n) h = cc
one_led (Err e) (Err f) h = ap Err (one_ending e f (cc))
