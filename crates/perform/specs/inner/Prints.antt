-- Document 01, "How a run ends": what each instruction that prints leads to, as the code holds it, and the room after it.
-- The paper's order of tests: bad code, then whether the print fits.
use Rattle.std.specs.Prelude.{◌≡◌, List, Bool, cond, ℕ, ◌+◌, ◌-◌, leb, ltb, ℤ, pos, length, get_or, drop}
use Rattle.base.specs.Bytes.{no_quote, run}
use Rattle.rooms.specs.inner.Rooms.{said, with_bytes}
use Rattle.endings.specs.Endings.{print_does_not_fit, bad_code}
use Rattle.numbers.specs.Numbers.{decimal}
use Rattle.moves.specs.inner.Moves.{Led, leads, stops, moves_to}
use Rattle.moves.specs.declared.State.{State}
use Rattle.moves.specs.declared.Move.TheVariants.{Go}

-- what is asked for: what it leads to, and no print; or bytes, at a state
pub data Asked : Type 0 where
  silent : Led → Asked
  print : State → List ℕ → Asked

-- the bytes fit after those that are printed
abbrev pub fits : State → List ℕ → List ℕ → Bool
fits s bs room = leb (s.printed + length bs) (length room)

unfoldable pub print_move : Asked → List ℕ → Led
print_move (silent m) room = m
print_move (print s bs) room =
    cond (fits s bs room)
    (leads (Go (record s { printed = s.printed + length bs })))
    (stops print_does_not_fit)

-- what does not fit leaves the room as it was
unfoldable pub print_room : Asked → List ℕ → List ℕ
print_room (silent m) room = room
print_room (print s bs) room = cond (fits s bs room) (with_bytes room s.printed bs) room

-- the answer r, and the room after it
pub record Performed (a : Asked) (room : List ℕ) (r : Led) (room' : List ℕ) : Type 0 where
  pub answer : r ≡ print_move a room
  pub bytes : room' ≡ print_room a room

-- What follows is said of a state s that is past the instruction.

-- the string that begins at the place q of the text, up to the quote that has to end it
unfoldable pub asked_str : State → List ℕ → ℕ → Bool → Asked
asked_str s text q line =
    let bs = run no_quote (drop q text) in
    cond (leb (length text) (q + length bs)) (silent (stops bad_code)) (print s (said line bs))

-- the value on top, which is the last of the live cells
unfoldable pub asked_int : State → List ℤ → Asked
asked_int s live =
    let d = length live - 1 in
    cond (ltb (length live) 1) (silent (stops bad_code)) (print (moves_to s s.index d) (decimal (get_or live d (pos 0))))
