-- What is told of an answer stands on its page. Assumes nothing.
use mathlib.Core.Path.{refl}
use mathlib.Core.List.{List, [], ◌++◌}
use Prim.Native.Nat.{ℕ, ◌+◌, ◌*◌, ◌/◌, ◌≤◌}
use native.Mathlib.Omega.{arith}
use lib.IntN.{ℤ}
use lib.ListN.{length, take, length-append, length-take}
use Rattle.std.proofs.Common.{Ok}
use Rattle.tables.specs.declared.Counts.{Counts}
use Rattle.lines.specs.Added.{Added}
use Rattle.lines.specs.Lines.{accepted_line}
use Rattle.lines.proofs.Short.{Small, short_accepted}
use Rattle.pairs.specs.Pairs.{table_lines}
use Rattle.tells.specs.Tells.{said_of_answer}
use Rattle.tells.specs.Writes.{Writes}
use Rattle.tells.specs.declared.Status.TheVariants.{Good}
use Rattle.tells.proofs.Pages.{said_bytes, said_page, untouched}

pub listed_accepted : (table : List ℤ) {page page' : List ℕ} {end : ℕ} (k : Counts) → let line = accepted_line k.instructions k.cells k.need ++ table_lines (take (k.instructions * 2) table) in length line ≤ length page → Added line page 0 page' end → Writes (said_of_answer (Ok k) table) (record { out = end; err = 0; status = Good }) page page' [] []
unfolding said_of_answer
listed_accepted table k short a = record { written = said_bytes a short; page = said_page a short; noted = refl; note = untouched []; status = refl }

-- the accepted line is short, and a line for each pair of a table is as long as 65 bytes
pub listing_short : (i c m n : ℕ) (table : List ℤ) → Small i → Small c → Small m → length (table_lines (take n table)) ≤ length (take n table) / 2 * 65 → length (accepted_line i c m ++ table_lines (take n table)) ≤ 96 + length table / 2 * 65
listing_short i c m n table h j k few = simp length-append (omega (arith, short_accepted i c m h j k, length-take n table))
