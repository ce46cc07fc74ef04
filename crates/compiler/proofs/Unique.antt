-- The contracts of `judge` and of `compile` leave one answer for each text, and one table for each lent table. Assumes nothing.
use mathlib.Core.Path.{◌≡◌, sym, subst, ◌∙◌}
use mathlib.Core.List.{List}
use Prim.Native.Nat.{ℕ}
use lib.IntN.{ℤ}
use Rattle.limits.specs.Limits.{Limits}
use Rattle.base.specs.Answers as A
use Rattle.base.specs.declared.Refused.{Refused}
use Rattle.std.specs.Prelude.{Result}
use Rattle.tables.specs.declared.Counts.{Counts}
use Rattle.compiler.specs.Answers.{answered, Compiles}
use Rattle.compiler.specs.Compiled.{Accepted, Judged, Compiled, WithAnswer}
use Rattle.compiler.proofs.Judging.{one_judged, one_compiled}

-- what is so of the one answer that is given
pub both : {Given So Too : A.Answer Accepted → Type 0} → ((a b : A.Answer Accepted) → Given a → Given b → a ≡ b) → WithAnswer Given So → WithAnswer Given Too → (a : A.Answer Accepted) × So a × Too a
both {Given} {So} {Too} one w v = (w.answer, w.so, subst Too (one v.answer w.answer v.is_given w.is_given) v.so)

module _ (limits : Limits) (text : List ℕ) where
  pub judged_unique : (r r' : Result Counts Refused) → WithAnswer (Judged limits text) (λ a. r ≡ answered a) → WithAnswer (Judged limits text) (λ a. r' ≡ answered a) → r ≡ r'
  judged_unique r r' w v = let e = both (λ a b. one_judged limits text) w v in e.1 ∙ sym e.2

  pub unique : (n : ℕ) (r r' : Result Counts Refused) (table table' : List ℤ) → WithAnswer (Compiled limits text n) (Compiles n r table) → WithAnswer (Compiled limits text n) (Compiles n r' table') → (r ≡ r') × (table ≡ table')
  unique n r r' table table' w v = let e = both (λ a b. one_compiled limits text n) w v in (e.1.answer ∙ sym e.2.answer, e.1.numbers ∙ sym e.2.numbers)
