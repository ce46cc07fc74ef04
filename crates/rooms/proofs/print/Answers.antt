-- `print` meets its contract. Assumes nothing.
use Rattle.rooms.proofs.Rooms.{line_does_not_fit, with_line, none_does_not_fit, without}
use Rattle.rooms.proofs.print.Goals as goal

pub returns-then-room-end : goal.returns-then-room-end
returns-then-room-end c = line_does_not_fit _ _ _ _ c.in_ok-end.ensures.1 _ c.if-line.true c.if-room-end.true

pub returns-then-line : goal.returns-then-line
returns-then-line c = rw c.copy.ensures (with_line _ _ _ _ c.in_ok-end.ensures.1 _ c.if-line.true c.if-room-end.false)

pub returns-then-room-end-2 : goal.returns-then-room-end-2
returns-then-room-end-2 c = none_does_not_fit _ _ _ _ c.in_ok-end.ensures.1 _ c.if-line.false c.if-room-end-2.true

pub returns : goal.returns
returns c = rw c.copy-2.ensures (without _ _ _ _ c.in_ok-end.ensures.1 _ c.if-line.false c.if-room-end-2.false)
