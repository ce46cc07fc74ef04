-- `pupil::put_place` meets its contract. Assumes nothing.
use Rattle.base.specs.Bytes.{bytes, bytes_from}
use Rattle.lines.proofs.Adds.{adds_then}
use Rattle.pupil.specs.Shows.{at_place}
use Rattle.pupil.proofs.put_place.Goals as goal

pub returns : goal.returns
unfolding at_place bytes bytes_from
returns c = adds_then (rw (c.number-number.ensures, c.spot_of-spot.ensures) at c.fill-next.ensures) c.put_marked_line.ensures
