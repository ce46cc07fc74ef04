-- There are no more readings than the numbers that were lent. Assumes nothing.
use Rattle.std.proofs.Common.{◌≡◌, sym, ◌∙◌, List, ℕ, ◌≤◌, ℤ, length, Result, Ok, Err, Some, length-take-le}
use Rattle.std.specs.Result.{result_ok}
use Rattle.input.specs.Received.{Receives}
use Rattle.input.proofs.Lent.{fit}
use Rattle.lessons.proofs.lesson.Goals as goal

fit_told : {E : Type 0} (r : Result ℕ E) (n : ℕ) (l k : List ℤ) → Receives r l k → Some n ≡ result_ok r → n ≤ length k
fit_told (Ok m) n l k h e = let q : m ≡ n = cc in rw q at (fit m l k h)
fit_told (Err why) n l k h e = cc

pub slice_bounds-numbers-end : goal.slice_bounds-numbers-end
slice_bounds-numbers-end c = fit_told _ _ _ _ c.readings_file-received.ensures (sym c.in-Some-told.is ∙ c.told-2.ensures)

pub slice_bounds-run-end-2 : goal.slice_bounds-run-end-2
slice_bounds-run-end-2 c = sym (length-take-le _ _ (fit_told _ _ _ _ c.readings_file-received.ensures (sym c.in-Some-told.is ∙ c.told-2.ensures)))
