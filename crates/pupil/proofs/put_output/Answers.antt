-- `pupil::put_output` meets its contract. Assumes nothing.
use Rattle.std.proofs.Common.{sym, ◌∙◌}
use Rattle.base.specs.Bytes.{bytes, bytes_from}
use Rattle.pupil.specs.Shows.{shown_output}
use Rattle.pupil.proofs.put_output.Goals as goal

pub returns-then-is_empty : goal.returns-then-is_empty
unfolding shown_output bytes bytes_from
returns-then-is_empty c = rw (sym c.is_empty.ensures ∙ c.if-is_empty.true) c.put.ensures
