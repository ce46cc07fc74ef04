-- A table that holds a code.
use Rattle.std.specs.Prelude.{List, ◌++◌, ℕ, ◌-◌, ℤ, pos, length, replicate}

-- the code's numbers, then zeros, in a table of so many numbers
unfoldable pub filled : ℕ → List ℤ → List ℤ
filled n code = code ++ replicate (n - length code) (pos 0)
