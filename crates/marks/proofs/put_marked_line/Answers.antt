-- `marks::put_marked_line` meets its contract. Assumes nothing.
use Rattle.std.proofs.Common.{◌≡◌, ℕ, ◌≤◌, List, sym, length}
use lib.Seq.{length-take-le}
use Rattle.base.specs.Bytes.{run}
use Rattle.base.proofs.Runs.{run_fits}
use Rattle.place.specs.Places.{no_line_feed}
use Rattle.place.proofs.Places.{spot_start, start_fits, within_fits}
use Rattle.marks.proofs.Shown.{same_adds, to_end, marked_text}
use Rattle.marks.proofs.put_marked_line.Goals as goal

run_end_fits : (s : List ℕ) (r : ℕ) → r ≡ length (run no_line_feed s) → r ≤ length s
run_end_fits s r e = rw e (run_fits no_line_feed s)

pub slice_bounds-rest-count : goal.slice_bounds-rest-count
slice_bounds-rest-count c = within_fits _ _ c.within-p.ensures

pub slice_bounds-rest-start : goal.slice_bounds-rest-start
slice_bounds-rest-start c = within_fits _ _ c.within-p.ensures

pub slice_bounds-put_marked-count : goal.slice_bounds-put_marked-count
slice_bounds-put_marked-count c = start_fits _ _ (spot_start _ _ c.spot_of-spot.ensures c.within-p.ensures)

pub slice_bounds-put_marked-start : goal.slice_bounds-put_marked-start
slice_bounds-put_marked-start c = start_fits _ _ (spot_start _ _ c.spot_of-spot.ensures c.within-p.ensures)

pub slice_bounds-put_marked-end : goal.slice_bounds-put_marked-end
slice_bounds-put_marked-end c = within_fits _ _ c.within-p.ensures

pub slice_bounds-put_marked-end-2 : goal.slice_bounds-put_marked-end-2
slice_bounds-put_marked-end-2 c = sym (length-take-le _ _ (run_end_fits _ _ c.such_run-end.ensures))

pub returns : goal.returns
returns c =
    let rest = to_end c.args.text.now c.within-p.result in
    let line = rw rest at c.such_run-end.ensures in
    same_adds (marked_text _ _ _ _ _ _ c.within-p.ensures (spot_start _ _ c.spot_of-spot.ensures c.within-p.ensures) line) (rw rest at c.put_marked.ensures)
