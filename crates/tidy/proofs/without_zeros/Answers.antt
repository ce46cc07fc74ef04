-- `tidy::without_zeros` meets its contract. Assumes nothing.
use Rattle.std.proofs.Common.{◌∙◌, rules, take, arith, length-drop, take_all}
use Rattle.std.proofs.lemmas.Iterator.{YieldsList-from_slice}
use Rattle.std.proofs.lemmas.Iterator.Search.{position_from_yields_List}
use borrow.Author.Tests.{tests}
use Rattle.tidy.proofs.Zeros.{no_zero, zeros_from}
use Rattle.tidy.proofs.without_zeros.Goals as goal

pub returns : goal.returns
returns c =
    let word = c.args.word.now in
    let last = c.saturating_sub-last.result in
    let at = position_from_yields_List no_zero _ _ c.position.result c.position.ensures.ran (YieldsList-from_slice (take last word) c.iter.ensures.rest) (λ x b q k. search (rules, tests)) in
    take_all _ _ (omega (arith, length-drop c.unwrap_or-from.result word)) ∙ zeros_from word last _ _ c.saturating_sub-last.ensures at c.unwrap_or-from.ensures
