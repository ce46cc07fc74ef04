-- `cases::count` meets its contract. Assumes nothing.
use Rattle.std.proofs.Common.{rules, tests, eqb, ◌∙◌}
use Rattle.std.proofs.lemmas.Iterator.{YieldsList-from_slice}
use Rattle.std.proofs.lemmas.Iterator.Consumers.{count_from_yields_List, YieldsList-from_filter}
use Rattle.cases.proofs.Laws.{marks_filtered}
use Rattle.cases.proofs.count.Goals as goal

pub returns : goal.returns
returns c = count_from_yields_List _ _ c.count.ensures.ran (YieldsList-from_filter _ (λ b. eqb b c.args.mark) (YieldsList-from_slice c.args.cases.now (search rules)) c.filter.ensures.closure (λ x b q k. search (rules, tests))) ∙ marks_filtered c.args.mark c.args.cases.now
