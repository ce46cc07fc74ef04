-- `scan::scan` meets its contract: the scan from `at` on is the whole scan. Assumes nothing.
use Rattle.std.proofs.Common.{◌<◌, sym, arith, rules}
use Rattle.std.proofs.lemmas.Result.{err_from_is_err_and}
use lib.Dec.{lit<}
use Rattle.limits.specs.Limits.{the_sizes}
use Rattle.lexeme.proofs.Places.{next_stands}
use Rattle.lexeme.proofs.Scans.{scan_starts, scan_refused, scan_large, scan_ends, scan_on}
use Rattle.scan.proofs.scan.Goals as goal

small : the_sizes.literal < 4294967295
small = lit< tt

pub loop-l-init : goal.loop-l-init
loop-l-init c = scan_starts the_sizes c.args.text.now

pub returns-in_err-l : goal.returns-in_err-l
returns-in_err-l c =
    let p = err_from_is_err_and c.from_residual.result c.from_residual.ensures.1 in
    rw (p.1, p.2) (scan_refused the_sizes c.args.text.now c.loop-l.at c.loop-l.invariant _ _ c.in_err-l.ensures)

pub is_too_large-requires : goal.is_too_large-requires
is_too_large-requires c = (next_stands c.args.text.now c.loop-l.at _ c.loop-l.invariant.within c.in_ok-l.ensures).1.order

pub returns-then-is_too_large : goal.returns-then-is_too_large
returns-then-is_too_large c = scan_large the_sizes c.args.text.now c.loop-l.at c.loop-l.invariant small _ c.in_ok-l.ensures (sym c.if-is_too_large.ensures)

pub returns-then-eq : goal.returns-then-eq
returns-then-eq c = scan_ends the_sizes c.args.text.now c.loop-l.at c.loop-l.invariant small _ c.in_ok-l.ensures (search rules)

pub loop-l-smaller : goal.loop-l-smaller
loop-l-smaller c =
    let s = next_stands c.args.text.now c.loop-l.at _ c.loop-l.invariant.within c.in_ok-l.ensures in
    omega (arith, s.0, s.1.some (λ e. search rules), s.1.within)

pub loop-l-preserved : goal.loop-l-preserved
loop-l-preserved c = scan_on the_sizes c.args.text.now c.loop-l.at c.loop-l.invariant small _ c.in_ok-l.ensures (sym c.if-is_too_large.ensures) (λ e. search rules)
