-- `place::count` meets its contract. Assumes nothing.
use Rattle.std.proofs.Common.{rules, ◌∙◌}
use Rattle.std.proofs.lemmas.Iterator.{YieldsList-from_slice}
use Rattle.std.proofs.lemmas.Iterator.Consumers.{count_from_yields_List, YieldsList-from_filter}
use Rattle.place.proofs.Places.{count_filtered}
use Rattle.place.proofs.count.Goals as goal

pub returns : goal.returns
returns g c test tells = count_from_yields_List _ _ c.count.ensures.ran (YieldsList-from_filter _ test (YieldsList-from_slice c.args.bytes.now (search rules)) c.filter.ensures.closure (λ x b q k. search (rules, tells))) ∙ count_filtered test c.args.bytes.now
