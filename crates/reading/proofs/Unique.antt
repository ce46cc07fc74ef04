-- What the code holds tells readings apart, so that the contract of `number_in_range` leaves one answer. Assumes nothing.
use Rattle.std.proofs.Common.{◌≡◌, refl, ℤ, Option as RustOption, Some, None}
use Rattle.std.proofs.Math.Option.{Option, none, some}
use Rattle.base.proofs.Unique.{same_by}
use Rattle.reading.specs.inner.Words.{as_reading}

abbrev back : Option ℤ → RustOption ℤ
back (some z) = Some z
back none = None

again : (o : RustOption ℤ) → back (as_reading o) ≡ o
again (Some z) = refl
again None = refl

pub one_reading : (v w : RustOption ℤ) → as_reading v ≡ as_reading w → v ≡ w
one_reading = same_by as_reading back again
