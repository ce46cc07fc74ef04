-- `words::put_why` meets its contract. Assumes nothing.
use borrow.Author.Rules.{rules}
use Rattle.base.specs.Bytes.{bytes, bytes_from}
use Rattle.lines.proofs.Short.{Small}
use Rattle.words.specs.Words.{refusals, why}
use Rattle.words.proofs.Short.{short_refusal}
use Rattle.words.proofs.put_why.Goals as goal

pub returns : goal.returns
unfolding why refusals bytes bytes_from
returns c =
    let small : Small c.why_row-row.result.number = search rules in
    record { added = rw c.why_row-row.ensures at c.put_row.ensures; short = rw c.why_row-row.ensures at (short_refusal c.why_row-row.result small) }
