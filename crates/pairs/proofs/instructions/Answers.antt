-- `pairs::instructions` meets its contract. The loop's invariant: with the lines that are left, all are added. Assumes nothing.
use Rattle.std.proofs.Common.{get_or, pos, refl, ◌∙◌, arith, rules}
use mir.Syntax.{w32}
use mir.Val.{SFits}
use mir.Facts.{to_z-of_z}
use Rattle.std.specs.Iterator.Adapters.{enumerate_count}
use Rattle.lines.proofs.Adds.{leads_start, leads_on, leads_out, adds_within}
use Rattle.pairs.proofs.Tables.{lines_start, lines_on, lines_out, short_on, next_pair, no_pair}
use Rattle.pairs.proofs.instructions.Goals as goal

pub loop-place-init : goal.loop-place-init
loop-place-init c = rw (c.into_iter-place-iterator.ensures.into_iter_gives, c.enumerate-place-items.ensures.count, c.enumerate-place-items.ensures.source, c.chunks_exact.ensures.size, c.chunks_exact.ensures.rest, lines_start c.args.table.now) (leads_start _ _ _ _ c.min-next.ensures, omega (arith, c.min-next.ensures), refl, refl, omega arith, omega arith)

pub loop-place-preserved : goal.loop-place-preserved
loop-place-preserved c =
    let s = c.in-Some.ensures.steps in
    let inv = c.loop-place.invariant in
    let i = enumerate_count c.loop-place.place-iterator in
    let next = next_pair c.args.table.now i _ c.in-Some.pair.now _ inv.3 s.0.1.0 (s.0.1.1 ∙ inv.2) in
    let f : SFits w32 (get_or c.in-Some.pair.now 0 (pos 0)) = search rules in
    let g : SFits w32 (get_or c.in-Some.pair.now 1 (pos 0)) = search rules in
    let line = rw (s.1, to_z-of_z f, to_z-of_z g, next.1, next.2) at c.instruction-next.ensures in
    rw s.2 (leads_on _ (lines_on c.args.table.now i next.0) line.added inv.0, adds_within line.added, s.0.0 ∙ inv.2, next.3, omega (arith, next.0), short_on c.args.table.now i _ next.0 line.short inv.5)

pub returns : goal.returns
returns c =
    let s = c.in-None.ensures.steps in
    let inv = c.loop-place.invariant in
    let none = lines_out c.args.table.now (enumerate_count c.loop-place.place-iterator) (no_pair c.args.table.now _ _ _ inv.3 inv.2 s.0.1.0) in
    record { added = leads_out inv.1 (rw none at inv.0); short = omega (arith, rw none at inv.5, inv.4) }
