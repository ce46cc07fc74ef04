use Rattle.std.proofs.Common.{◌≡◌, ◌≤◌, ◌+◌, ◌-◌, ◌*◌, ◌/◌, length, drop}
use Rattle.std.specs.Iterator.Adapters.{enumerate_source, enumerate_count}
use Rattle.std.specs.Slice.Iter.{chunks_exact_rest, chunks_exact_size}
use Rattle.pairs.specs.Pairs.{lines_from, table_lines}
use Rattle.lines.proofs.Adds.{Leads}
use Rattle.pairs.proofs.instructions.Given as goal

abbrev pub invariant-loop-place : goal.invariant-loop-place
invariant-loop-place l =
    let i = enumerate_count l.place-iterator in
    let left = lines_from (length l.table / 2 - i) i l.table in
    Leads (table_lines l.table) l.initial.page l.at left l.page l.next × (l.next ≤ length l.page) × (chunks_exact_size (enumerate_source l.place-iterator) ≡ 2) × (chunks_exact_rest (enumerate_source l.place-iterator) ≡ drop (i * 2) l.table) × (i ≤ length l.table / 2) × (length (table_lines l.table) ≤ i * 65 + length left)
