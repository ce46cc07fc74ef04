-- How the line of a place is shown: its bytes, cut where they are many, and under them a mark at the place.
use Rattle.std.specs.Prelude.{List, [], ◌++◌, map, Bool, true, false, cond, ◌||◌, ℕ, ◌+◌, ◌-◌, eqb, ltb, length, take, drop, replicate}
use Prim.Native.Char.{code}
use Rattle.base.specs.Bytes.{bytes, run}
use Rattle.place.specs.Places.{goes_on, begins, count, within, before, from_place}
use Rattle.marks.specs.declared.TheConstants.Window.{WHOLE, LAST, NEXT, REST}

-- how much is shown: before the place `whole` bytes at most, and of more than those the last `last`; from the place on `next`, and `rest` more at most that go on a character
pub record Widths : Type 0 where
  pub whole : ℕ
  pub last : ℕ
  pub next : ℕ
  pub rest : ℕ

-- those that the contracts hand in: their numbers stand in src/lib.rt
abbrev pub the_widths : Widths
the_widths = record { whole = WHOLE; last = LAST; next = NEXT; rest = REST }

-- what is seen of a byte: a tab and a carriage return as a space, so that each character takes one cell, and any other control byte as a question mark
unfoldable pub seen : ℕ → ℕ
seen b = cond (eqb b 9 || eqb b 13) (code " ") (cond (ltb b 32 || eqb b 127) (code "?") b)

-- where what is shown of the bytes before a place begins: with a whole character
unfoldable pub shown_from : ℕ → ℕ → List ℕ → ℕ
shown_from whole last bs = cond (ltb whole (length bs)) (length bs - last + length (run goes_on (drop (length bs - last) bs))) 0

-- where what is shown of the bytes from a place on ends: with a whole character
unfoldable pub shown_to : ℕ → ℕ → List ℕ → ℕ
shown_to next rest bs = within bs next + length (run goes_on (take rest (drop next bs)))

-- bytes that are written only in one case
unfoldable pub only : Bool → List ℕ → List ℕ
only true bs = bs
only false bs = []

-- the line, by what is shown before the place and from it on, and whether something is left out in front and behind
unfoldable pub line : Bool → List ℕ → List ℕ → Bool → List ℕ
line front bs cs behind = bytes "  " ++ only front (bytes "...") ++ map seen bs ++ map seen cs ++ only behind (bytes "...") ++ bytes "\n"

-- the mark's line: a space for each cell before the place
unfoldable pub mark : Bool → List ℕ → List ℕ
mark front bs = bytes "  " ++ only front (bytes "   ") ++ replicate (count begins bs) (code " ") ++ bytes "^\n"

-- both, by the line's bytes before the place and from it on
unfoldable pub marked : Widths → List ℕ → List ℕ → List ℕ
marked w bs cs =
    let from = shown_from w.whole w.last bs in
    let to = shown_to w.next w.rest cs in
    line (ltb 0 from) (drop from bs) (take to cs) (ltb to (length cs)) ++ mark (ltb 0 from) (drop from bs)

unfoldable pub marked_line : Widths → List ℕ → ℕ → List ℕ
marked_line w text place = marked w (before text (within text place)) (from_place text (within text place))
