-- A sentence with its number is at most 160 bytes long. Assumes nothing.
use mathlib.Core.Path.{◌≡◌, refl}
use mathlib.Core.Bool.{true}
use mathlib.Core.List.{List, [], ◌∷◌}
use Prim.Native.Nat.{ℕ, ◌≤◌}
use native.Mathlib.Omega.{arith}
use lib.ListN.{length}
use Rattle.base.specs.Bytes.{bytes, bytes_from}
use Rattle.rows.specs.Rows.{nth}
use Rattle.rows.proofs.Short.{few, nth_few}
use Rattle.lines.proofs.Short.{Small, short_filled}
use Rattle.words.specs.Words.{in_words, refusals, endings}
use Rattle.words.specs.declared.Row.{Row}

short_row : (table : List ℕ) (r : Row) → few 10 141 141 table ≡ true → Small r.number → length (in_words table r) ≤ 160
unfolding in_words
short_row table r h small = omega (arith, short_filled (nth 10 r.line table) (r.number ∷ []) (small, tt), nth_few 10 141 r.line table h)

pub short_refusal : (r : Row) → Small r.number → length (in_words refusals r) ≤ 160
unfolding refusals bytes bytes_from few
short_refusal r small = short_row refusals r refl small

pub short_ending : (r : Row) → Small r.number → length (in_words endings r) ≤ 160
unfolding endings bytes bytes_from few
short_ending r small = short_row endings r refl small
