use Rattle.input.proofs.Seen.{further}
use Rattle.input.proofs.readings_of.Goals as goal

pub loop-preserved : goal.loop-preserved
loop-preserved g c = further _ _ _ _ _ _ c.in_ok-chunk.ensures c.loop.invariant
