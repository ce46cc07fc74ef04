-- How long the shown line and its mark are at most. Assumes nothing.
use mathlib.Core.Path.{◌≡◌, refl}
use mathlib.Core.Bool.{Bool, true, false, cond}
use mathlib.Core.List.{List}
use Prim.Native.Nat.{ℕ, ◌+◌, ◌-◌, ◌*◌, ◌≤◌, max}
use native.Mathlib.Nat.{le_refl}
use native.Mathlib.Omega.{arith}
use borrow.Author.Tests.{ltb-false}
use lib.Dec.{ltb}
use lib.ListN.{length, take, drop, length-append, length-map, length-replicate, length-take, length-drop}
use Rattle.base.specs.Bytes.{bytes, bytes_from, run}
use Rattle.base.proofs.Runs.{run_fits}
use Rattle.place.specs.Places.{goes_on, begins, within, before, from_place}
use Rattle.marks.specs.Shown.{Widths, shown_from, shown_to, only, line, mark, marked, marked_line}
use Rattle.place.proofs.Places.{count_fits}

only_fits : (t : Bool) (s : List ℕ) → length (only t s) ≤ length s
unfolding only
only_fits true s = le_refl (length s)
only_fits false s = omega arith

-- what is shown before the place, with three bytes more where something is left out
front_fits : (whole last : ℕ) (bs s : List ℕ) → length s ≡ 3 → length (only (ltb 0 (shown_from whole last bs)) s) + length (drop (shown_from whole last bs) bs) ≤ max whole (last + 3)
unfolding shown_from only
front_fits whole last bs s three = by_test (ltb whole (length bs)) refl
  where
    cut : ℕ
    cut = length bs - last + length (run goes_on (drop (length bs - last) bs))

    by_test : (t : Bool) → ltb whole (length bs) ≡ t → length (only (ltb 0 (cond t cut 0)) s) + length (drop (cond t cut 0) bs) ≤ max whole (last + 3)
    by_test true h = omega (arith, only_fits (ltb 0 cut) s, length-drop cut bs)
    by_test false h = omega (arith, ltb-false whole (length bs) h)

-- what is shown from the place on
back_fits : (next rest : ℕ) (bs : List ℕ) → length (take (shown_to next rest bs) bs) ≤ next + rest
unfolding shown_to within
back_fits next rest bs = omega (arith, length-take (shown_to next rest bs) bs, run_fits goes_on (take rest (drop next bs)), length-take rest (drop next bs))

marked_short : (w : Widths) (bs cs : List ℕ) → length (marked w bs cs) ≤ 2 * max w.whole (w.last + 3) + w.next + w.rest + 10
unfolding marked line mark bytes bytes_from
marked_short w bs cs =
    let from = shown_from w.whole w.last bs in
    let to = shown_to w.next w.rest cs in
    simp (length-append, length-map, length-replicate)
    (omega (arith, front_fits w.whole w.last bs (bytes "...") refl, front_fits w.whole w.last bs (bytes "   ") refl, back_fits w.next w.rest cs, only_fits (ltb to (length cs)) (bytes "..."), count_fits begins (drop from bs)))

-- with 60, 40, 36 and 3 bytes: 169
pub marked_fits : (w : Widths) (text : List ℕ) (place : ℕ) → length (marked_line w text place) ≤ 2 * max w.whole (w.last + 3) + w.next + w.rest + 10
unfolding marked_line
marked_fits w text place = marked_short w (before text (within text place)) (from_place text (within text place))
