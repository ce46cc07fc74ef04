-- What a caller may take of the numbers that were lent: the readings of the input, and no more than there are. Assumes nothing.
use Rattle.std.proofs.Common.{◌≡◌, ap, List, ℕ, ◌≤◌, arith, ℤ, length, take, length-append}
use lib.Seq.{take-append_seam}
use Rattle.readings.specs.Readings.{readings}
use Rattle.readings.specs.Taken.{Taken, taken_in}
use Rattle.input.specs.Received.{AreReadings}

pub are_readings : (n : ℕ) (l k : List ℤ) → AreReadings n l k → (input : List ℕ) × (take n k ≡ readings (length l) input)
unfolding taken_in
are_readings n l k r = (r.0, rw (ap (λ (t : Taken). t.count) r.1, ap (λ (t : Taken). t.numbers) r.1) (take-append_seam (readings (length l) r.0) _))

pub fit : (n : ℕ) (l k : List ℤ) → AreReadings n l k → n ≤ length k
unfolding taken_in
fit n l k r = grind (arith, ap (λ (t : Taken). t.count) r.1, ap (λ (t : Taken). t.numbers) r.1, length-append {A = ℤ})
