-- `programs::listing` meets its contract. Assumes nothing.
use Rattle.programs.proofs.Listings.{lists}
use Rattle.programs.proofs.listing.Goals as goal

pub returns : goal.returns
returns c = lists c.compile-answer.ensures c.list.ensures
