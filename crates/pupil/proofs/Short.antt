-- How long it is what is shown. Assumes nothing.
use mathlib.Core.Bool.{Bool, true, false, cond}
use mathlib.Core.List.{List, [], ◌∷◌}
use Prim.Native.Nat.{ℕ, ◌+◌, ◌-◌, ◌≤◌, ◌<◌}
use native.Mathlib.Omega.{arith}
use lib.Dec.{eqb}
use lib.ListN.{length, take, drop, length-append, length-take, length-drop}
use Rattle.base.specs.declared.Refusal.{Refusal}
use Rattle.base.specs.Answers.{number}
use Rattle.base.specs.Bytes.{bytes, bytes_from}
use Rattle.rules.specs.Machine.{Report}
use Rattle.lines.specs.Forms.{filled}
use Rattle.lines.proofs.Short.{Small, small_number, short_filled}
use Rattle.place.specs.Places.{line_feed, begins, within, line_start, before, spot, spot_at}
use Rattle.place.proofs.Places.{count_fits}
use Rattle.marks.specs.Shown.{Widths, marked_line}
use Rattle.words.specs.Words.{why, how}
use Rattle.words.specs.declared.Numbers.{Numbers}
use Rattle.pupil.specs.Shows.{has_place, at_place, shown_where, shown_refusal, shown_output, steps_taken, shown_run}

-- lines and columns are counted in a text
module _ (text : List ℕ) (place : ℕ) (h : length text < 18446744073709551615) where
  small_line : Small (spot text place).line
  unfolding spot spot_at
  small_line = let p = within text place in omega (arith, count_fits line_feed (take p text), length-take p text)

  small_column : Small (spot text place).column
  unfolding spot spot_at before
  small_column =
      let p = within text place in
      let start = line_start text p in
      omega (arith, count_fits begins (take (p - start) (drop start text)), length-take (p - start) (drop start text), length-drop start text)

module _ (w : Widths) (text : List ℕ) (r : Refusal) (place : ℕ) where
  short_where : length text < 18446744073709551615 → length (marked_line w text place) ≤ 169 → length (shown_where w text r place) ≤ 255
  unfolding shown_where at_place bytes bytes_from
  short_where h few = by (has_place r)
    where
      small : Small (number r)
      small = omega (arith, small_number r)

      by : (t : Bool) → length (cond t (at_place w text r place) (filled (bytes "refusal #:\n") (number r ∷ []))) ≤ 255
      by true = simp length-append (omega (arith, short_filled (bytes "refusal #, line #, column #:\n") (number r ∷ (spot text place).line ∷ (spot text place).column ∷ []) (small, (small_line text place h, (small_column text place h, tt)))))
      by false = omega (arith, short_filled (bytes "refusal #:\n") (number r ∷ []) (small, tt))

  pub short_refusal : (n : Numbers) → length text < 18446744073709551615 → length (marked_line w text place) ≤ 169 → length (why n text r place) ≤ 160 → length (shown_refusal w n text r place) ≤ 512
  unfolding shown_refusal
  short_refusal n h few brief = simp length-append (omega (arith, short_where h few))

short_output : (output : List ℕ) → length (shown_output output) ≤ length output + 21
unfolding shown_output bytes bytes_from
short_output output = by (eqb (length output) 0)
  where
    by : (t : Bool) → length (cond t (bytes "(nothing was printed)") output) ≤ length output + 21
    by true = omega arith
    by false = omega arith

short_steps : (e s b : ℕ) → Small e → Small s → Small b → length (steps_taken e s b) ≤ 100
unfolding steps_taken bytes bytes_from
short_steps e s b h i j = omega (arith, short_filled (bytes "\nending # after # of # steps: ") (e ∷ s ∷ b ∷ []) (h, (i, (j, tt))))

pub short_run : (n : Numbers) (r : Report) → Small r.ending → Small r.steps → Small n.budget → length (how n r.ending) ≤ 160 → length (shown_run n r) ≤ length r.output + 512
unfolding shown_run
short_run n r h i j brief = simp length-append (omega (arith, short_output r.output, short_steps r.ending r.steps n.budget h i j))
