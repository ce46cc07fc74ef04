-- Rows one after the other, each ended by a mark.
use Rattle.std.specs.Prelude.{List, Bool, not, ℕ, zero, suc, eqb, length, drop}
use Rattle.base.specs.Bytes.{run}

unfoldable pub no_mark : ℕ → ℕ → Bool
no_mark mark b = not (eqb b mark)

-- the row after so many others
unfoldable pub nth : ℕ → ℕ → List ℕ → List ℕ
nth mark zero s = run (no_mark mark) s
nth mark (suc n) s = nth mark n (drop (suc (length (run (no_mark mark) s))) s)
