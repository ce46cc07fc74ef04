-- `arith::in_range` meets its contract. Assumes nothing.
use Rattle.std.proofs.Common.{◌≡◌, Ok, Err, MatchResult, rules}
use mir.Facts.{to_z-of_z}
use Rattle.endings.specs.declared.Ending.TheVariants.{OutsideRange}
use Rattle.numbers.proofs.Signed.{converted_is}
use Rattle.numbers.proofs.arith.in_range.Goals as goal

pub returns : goal.returns
returns c =
    let e : MatchResult c.try_from.result (λ x. c.map_err.result ≡ Ok x) (λ _. c.map_err.result ≡ Err OutsideRange) = search rules in
    converted_is _ _ _ (rw (to_z-of_z c.ranges.z) at c.try_from.ensures) e
