-- `compiler::expression::comparison` meets its contract. Assumes nothing.
use mathlib.Core.Path.{sym, ◌∙◌}
use native.Mathlib.Nat.{le_refl}
use Rattle.sentence.proofs.Reader.{is_rel}
use Rattle.compiler.proofs.Looked.{no_such_one, no_other_rel}
use Rattle.compiler.specs.inner.Walks.{comparison_way}
use Rattle.compiler.proofs.Passes.{comparison_refused, no_relation}
use Rattle.compiler.proofs.Replies.{passed_on, ready_past, ready_got, counts_got, comparison_joins, right_lost, right_leads, right_joined}
use Rattle.compiler.proofs.expression.comparison.Goals as goal

pub returns-in_err-left : goal.returns-in_err-left
returns-in_err-left c = passed_on comparison_way _ _ _ _ _ _ _ _ c.from_residual.ensures.1 (comparison_refused c.in_err-left.ensures)

pub returns-in_default : goal.returns-in_default
returns-in_default c = let g = c.in_ok-left.ensures in rw c.refused_ahead.ensures (no_relation _ g.what g.passed (no_such_one is_rel _ no_other_rel (sym c.rel_in.ensures ∙ c.in_default.is)))

pub returns-in_err-x : goal.returns-in_err-x
returns-in_err-x c = passed_on comparison_way _ _ _ _ _ _ _ _ c.from_residual-in_err-x.ensures.1 (right_lost comparison_joins c.in_ok-left.ensures (sym c.rel_in.ensures ∙ c.in-Some.is) c.in_err-x.ensures)

pub expression-requires-2 : goal.expression-requires-2
expression-requires-2 c = ready_past (ready_got c.requires c.in_ok-left.ensures) _ (le_refl _) c.in_ok-x.ensures

pub returns-in_err-right : goal.returns-in_err-right
returns-in_err-right c = passed_on comparison_way _ _ _ _ _ _ _ _ c.from_residual-in_err-right.ensures.1 ((right_leads comparison_joins c.in_ok-left.ensures (sym c.rel_in.ensures ∙ c.in-Some.is) c.in_ok-x.ensures).refuses c.in_err-right.ensures)

pub joined-requires : goal.joined-requires
joined-requires c = let k = counts_got (ready_past (ready_got c.requires c.in_ok-left.ensures) _ (le_refl _) c.in_ok-x.ensures) c.in_ok-right.ensures in record { code = k.0; need = k.1 }

pub returns : goal.returns
returns c = rw (c.joined.ensures.value, c.joined.ensures.table_after) (right_joined comparison_joins c.in_ok-left.ensures (sym c.rel_in.ensures ∙ c.in-Some.is) c.in_ok-x.ensures c.in_ok-right.ensures)
