-- What is loaded fits the buffer.
use Rattle.std.specs.Prelude.{ℕ, ◌≤◌, Result, IfOk}

abbrev pub Within : {E : Type 0} → Result ℕ E → ℕ → Type 0
Within loaded size = IfOk loaded (λ n. n ≤ size)
