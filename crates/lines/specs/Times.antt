-- Bytes, one time after the other.
use Rattle.std.specs.Prelude.{List, [], ◌++◌, ℕ, zero, suc}

-- so many times the bytes, one after the other
unfoldable pub times : ℕ → List ℕ → List ℕ
times zero s = []
times (suc n) s = s ++ times n s
