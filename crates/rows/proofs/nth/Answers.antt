-- `rows::nth` meets its contract. Assumes nothing.
use Rattle.std.proofs.Common.{rules, tests, eqb, refl, ap, ◌∙◌}
use Rattle.std.proofs.lemmas.Iterator.Consumers.{nth_from_yields_List}
use Rattle.std.proofs.lemmas.Iterator.Splits.{YieldsList-from_slice_split}
use Rattle.rows.proofs.Laws.{given_row}
use Rattle.rows.proofs.nth.Goals as goal

pub returns : goal.returns
returns c = ap (λ r. r.now) c.unwrap_or.ensures ∙ given_row c.args.mark c.args.rows.now c.args.n c.nth.result _ (nth_from_yields_List _ _ _ c.nth.ensures.ran (YieldsList-from_slice_split _ (λ b. eqb b c.args.mark) c.args.rows.now c.split.ensures.rest c.split.ensures.done c.split.ensures.closure (λ x b q k. search (rules, tests)))) refl
