-- `words::put_how` meets its contract. Assumes nothing.
use borrow.Author.Rules.{rules}
use Rattle.base.specs.Bytes.{bytes, bytes_from}
use Rattle.lines.proofs.Short.{Small}
use Rattle.words.specs.Words.{endings, how}
use Rattle.words.proofs.Short.{short_ending}
use Rattle.words.proofs.put_how.Goals as goal

pub returns : goal.returns
unfolding how endings bytes bytes_from
returns c =
    let small : Small c.how_row-row.result.number = search rules in
    record { added = rw c.how_row-row.ensures at c.put_row.ensures; short = rw c.how_row-row.ensures at (short_ending c.how_row-row.result small) }
