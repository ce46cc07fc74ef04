-- The signed 32-bit range is that of the numbers which 32 bits hold. Assumes nothing.
use Rattle.std.proofs.Common.{◌≡◌, Bool, true, false, ℕ, zero, suc, ℤ, Result, Ok, Err, arith}
use Rattle.std.specs.Result.{OkIff, result_ok}
use Rattle.std.proofs.lemmas.Bool.Decides.{nat_tests}
use mir.Syntax.{w32}
use mir.Val.{SFits}
use Rattle.reading.specs.Reading.{in_signed_range, signed, number_in_range}
use Rattle.reading.specs.inner.Words.{as_reading}

held : (negative : Bool) (n : ℕ) → SFits w32 (signed negative n) → in_signed_range negative n ≡ true
unfolding signed in_signed_range
held true zero f = grind (arith, nat_tests)
held true (suc n) f = grind (arith, nat_tests, f.sfits)
held false n f = grind (arith, nat_tests, f.sfits)

not_held : (negative : Bool) (n : ℕ) → ¬ SFits w32 (signed negative n) → in_signed_range negative n ≡ false
unfolding signed in_signed_range
not_held true n f = grind (arith, nat_tests, f)
not_held false n f = grind (arith, nat_tests, f)

pub read : {E : Type 0} (negative : Bool) (n : ℕ) (r : Result ℤ E) → OkIff r (SFits w32 (signed negative n)) (signed negative n) → as_reading (result_ok r) ≡ number_in_range negative n
unfolding number_in_range
read negative n (Ok z) p = rw (held negative n p.0, p.1)
read negative n (Err e) p = rw (not_held negative n p)
