-- `pairs::instruction` meets its contract. Assumes nothing.
use Rattle.std.proofs.Common.{arith}
use mir.Facts.{to_z-of_z}
use Rattle.base.specs.Bytes.{bytes, bytes_from}
use Rattle.pairs.specs.Pairs.{instruction_line}
use Rattle.lines.proofs.Adds.{adds_then}
use Rattle.pairs.proofs.Tables.{short_instruction}
use Rattle.pairs.proofs.instruction.Goals as goal

pub returns : goal.returns
unfolding instruction_line bytes bytes_from
returns c = record {
  added = adds_then (adds_then (adds_then c.put_natural-a.ensures (rw (to_z-of_z c.ranges.operation) at c.put_spaced-b.ensures)) (rw (to_z-of_z c.ranges.operand) at c.put_spaced-c.ensures)) c.put_byte.ensures;
  short = short_instruction c.args.place _ _ (omega arith) c.ranges.operation c.ranges.operand;
}
