-- `lexer::value_of` meets its contract: the value only grows with the digits that are left. Assumes nothing.
use Rattle.std.proofs.Common.{arith, ◌≡◌, ◌+◌, ◌-◌, ◌*◌, ◌<◌, ℕ, List, length, drop, sym, ◌∙◌}
use lib.ListN.{get_or}
use Rattle.base.specs.Bytes.{value}
use Rattle.base.proofs.Words.{value_on, value_grows}
use Rattle.lexer.proofs.value_of.Goals as goal

-- the value after one digit more is at most the whole value
grown : (v i r : ℕ) (w : List ℕ) → r ≡ get_or w i 0 - 48 → i < length w → value v (drop i w) ≡ value 0 w → 4294967295 < v * 10 + r → 4294967295 < value 0 w
grown v i r w e h k p =
    let on : value (v * 10 + r) (drop (i + 1) w) ≡ value v (drop i w) = rw e (value_on v w i h) in
    omega (arith, value_grows (v * 10 + r) (drop (i + 1) w), on, k)

pub returns-then-value-gt4294967295 : goal.returns-then-value-gt4294967295
returns-then-value-gt4294967295 c = omega (arith, grown _ _ _ _ c.saturating_sub.ensures c.loop-digit-test.true c.loop-digit.invariant.1 c.if-value-gt4294967295.true)
