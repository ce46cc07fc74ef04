-- `lexeme::capital_word` meets its contract. Assumes nothing.
use mathlib.Core.Path.{sym, ◌∙◌}
use mathlib.Core.Bool.{true, false}
use Rattle.lexeme.proofs.Keywords.{spotted_here, spotted_none}
use Rattle.lexeme.proofs.capital_word.Goals as goal

pub returns-in-Some : goal.returns-in-Some
returns-in-Some c = spotted_here _ _ true (sym c.candidate.ensures ∙ c.in-Some.is) (sym c.if-is_keyword.true ∙ c.is_keyword.ensures)

pub returns-in_default : goal.returns-in_default
returns-in_default c = spotted_here _ _ false (sym c.candidate.ensures ∙ c.in-Some.is) (sym c.if-is_keyword.false ∙ c.is_keyword.ensures)

pub returns-in_default-2 : goal.returns-in_default-2
returns-in_default-2 c = spotted_none _ (sym c.candidate.ensures ∙ c.in_default.is)
