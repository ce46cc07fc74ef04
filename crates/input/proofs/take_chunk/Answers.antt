-- The reader goes on by the bytes that the buffer holds after the read.
use Rattle.std.proofs.Common.{take, lt-ltb}
use Rattle.input.proofs.take_chunk.Goals as goal

pub returns-then-n-gt0 : goal.returns-then-n-gt0
returns-then-n-gt0 g c = (
  take c.in_ok-n.n c.read.new.buf,
  record {
    on = c.more-reader.ensures;
    unless = rw (← c.in_ok-n.ensures.bound.1, lt-ltb 0 c.in_ok-n.n c.if-n-gt0.true, ← c.is_over.ensures);
  },
)
