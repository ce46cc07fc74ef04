-- `scopes::is_other` meets its contract. Assumes nothing.
use Rattle.std.proofs.Common.{sym, ◌∙◌, arith}
use borrow.Author.Tests.{not-true, eqb-false}
use Rattle.names.proofs.Found.{other_letter}
use Rattle.scopes.proofs.is_other.Goals as goal

pub returns : goal.returns
returns c = λ h p.
    let some = eqb-false _ _ (sym c.is_empty.ensures ∙ c.if-is_empty.false) in
    other_letter _ _ _ (omega arith) (omega arith) p (eqb-false _ _ (not-true _ h))
