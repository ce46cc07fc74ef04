-- The contract of `run_text` leaves one outcome, table, stack and output for each text and all that is lent. Assumes nothing.
use mathlib.Core.Path.{◌≡◌, refl, sym, ap, ◌∙◌}
use mathlib.Core.List.{List}
use Prim.Native.Nat.{ℕ}
use lib.IntN.{ℤ}
use Rattle.limits.specs.Limits.{Limits}
use Rattle.base.specs.Answers.{Answer}
use Rattle.machine.proofs.Runs.{only_one}
use Rattle.compiler.specs.Compiled.{Accepted, Compiled, WithAnswer}
use Rattle.compiler.proofs.Judging.{one_compiled}
use Rattle.compiler.proofs.Unique.{both}
use Rattle.kit.specs.Kit.{ComesTo, refused_so, ran, OutcomeOf}
use Rattle.std.specs.Prelude.{Result, Ok}
use Rattle.base.specs.declared.Refused.{Refused}
use Rattle.machine.specs.declared.Report as Code

module _ (text : List ℕ) (readings : List ℤ) (budget : ℕ) (stack : List ℤ) (out : List ℕ) where
  same : {a : Answer Accepted} {r r' : Result Code.Report Refused} {s s' : List ℤ} {o o' : List ℕ} → ComesTo text readings budget stack out a r s o → ComesTo text readings budget stack out a r' s' o' → (r ≡ r') × (s ≡ s') × (o ≡ o')
  same (refused_so why p) (refused_so _ _) = (refl, refl, refl)
  same (ran a x w f) (ran _ y v g) = let e = only_one w v in (ap Ok e.0, e.1.0, e.1.1)

  abbrev Comes : Limits → ℕ → Result Code.Report Refused → List ℤ → List ℤ → List ℕ → Type 0
  Comes limits n r table' stack' out' = WithAnswer (Compiled limits text n) (OutcomeOf text readings budget stack out n r table' stack' out')

  pub unique : (limits : Limits) (n : ℕ) {r r' : Result Code.Report Refused} {table' table'' stack' stack'' : List ℤ} {out' out'' : List ℕ} → Comes limits n r table' stack' out' → Comes limits n r' table'' stack'' out'' → (r ≡ r') × (table' ≡ table'') × (stack' ≡ stack'') × (out' ≡ out'')
  unique limits n p q =
      let b = both (λ a c. one_compiled limits text n) p q in
      let e = same b.1.comes b.2.comes in
      (e.0, b.1.numbers ∙ sym b.2.numbers, e.1, e.2)
