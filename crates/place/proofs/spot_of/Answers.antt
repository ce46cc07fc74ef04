-- `place::spot_of` meets its contract. Assumes nothing.
use mathlib.Core.Path.{sym}
use Prim.Native.Nat.{◌-◌}
use native.Mathlib.Omega.{arith}
use lib.ListN.{drop}
use lib.Seq.{length-take-le}
use Rattle.place.specs.Places.{before, spot_at, spot}
use Rattle.place.proofs.Places.{count_take, within_fits, start_fits}
use Rattle.place.proofs.spot_of.Goals as goal

pub line_start-start-requires : goal.line_start-start-requires
line_start-start-requires c = within_fits _ _ c.within-p.ensures

pub slice_bounds-count_such-start : goal.slice_bounds-count_such-start
slice_bounds-count_such-start c = start_fits _ _ c.line_start-start.ensures

pub slice_bounds-count_such-end : goal.slice_bounds-count_such-end
slice_bounds-count_such-end c = sym (length-take-le _ _ (within_fits _ _ c.within-p.ensures))

pub slice_bounds-count_such-count : goal.slice_bounds-count_such-count
slice_bounds-count_such-count c = start_fits _ _ c.line_start-start.ensures

pub slice_bounds-count_such-end-2 : goal.slice_bounds-count_such-end-2
slice_bounds-count_such-end-2 c = within_fits _ _ c.within-p.ensures

pub overflow_add-result : goal.overflow_add-result
overflow_add-result c = let h = within_fits _ _ c.within-p.ensures in omega (arith, count_take _ c.within-p.result c.args.text.now c.count_such-feeds.ensures)

pub overflow_add-result-2 : goal.overflow_add-result-2
overflow_add-result-2 c = let h = within_fits _ _ c.within-p.ensures in omega (arith, count_take _ (c.within-p.result - c.line_start-start.result) (drop c.line_start-start.result c.args.text.now) c.count_such-characters.ensures)

pub returns : goal.returns
unfolding spot spot_at before
returns c = rw (← c.within-p.ensures, ← c.line_start-start.ensures, ← c.count_such-feeds.ensures, ← c.count_such-characters.ensures)
