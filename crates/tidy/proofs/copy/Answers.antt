-- `tidy::copy` meets its contract. Assumes nothing.
use Rattle.std.proofs.Common.{◌≡◌, rules}
use Rattle.std.specs.Prelude.{Err}
use Rattle.tidy.specs.declared.Uncopied.TheVariants.{Refused}
use native.Mathlib.Omega.{arith}
use Rattle.tidy.proofs.Outcomes.{by_refusal, by_write}
use Rattle.tidy.proofs.copy.Goals as goal

pub returns-in_err-judge : goal.returns-in_err-judge
returns-in_err-judge c = let e : c.from_residual.result ≡ Err (Refused c.in_err-judge.field-0.0) = search rules in rw e (by_refusal _ _ _ c.in_err-judge.ensures)

pub returns : goal.returns
returns c = by_write _ _ _ _ c.min-most.ensures c.in_ok-judge.ensures (omega arith) c.write.ensures c.ok_or.ensures.value
