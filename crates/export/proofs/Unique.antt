-- The contracts of `o_compile`, `o_run`, `o_run_text` and `o_tidy` leave one report, and one content of table, stack and room. Assumes nothing.
use mathlib.Core.Path.{◌≡◌, sym, ◌∙◌}
use mathlib.Core.List.{List}
use Prim.Native.Nat.{ℕ}
use lib.IntN.{ℤ}
use Rattle.limits.specs.Limits.{Limits}
use Rattle.rules.specs.Machine.{Report}
use Rattle.compiler.specs.Compiled.{Compiled, WithAnswer}
use Rattle.compiler.proofs.Judging.{one_judged, one_compiled}
use Rattle.compiler.proofs.Unique.{both}
use Rattle.export.specs.Reports.{CompiledInto, RanInto, RanTextInto, TidyInto}

pub run_unique : {w : Report} {cells : List ℤ} {before report report' : List ℕ} {cells' cells'' : List ℤ} {after after' : List ℕ} → RanInto w cells before report cells' after → RanInto w cells before report' cells'' after' → (report ≡ report') × (cells' ≡ cells'') × (after ≡ after')
run_unique p q = (p.reported ∙ sym q.reported, p.stack ∙ sym q.stack, p.room ∙ sym q.room)

module _ (limits : Limits) (text : List ℕ) (n : ℕ) where
  pub compile_unique : {report report' : List ℕ} {table table' : List ℤ} → WithAnswer (Compiled limits text n) (CompiledInto n report table) → WithAnswer (Compiled limits text n) (CompiledInto n report' table') → (report ≡ report') × (table ≡ table')
  compile_unique p q = let b = both (λ a c. one_compiled limits text n) p q in (b.1.reported ∙ sym b.2.reported, b.1.code ∙ sym b.2.code)

  module _ (readings : List ℤ) (budget : ℕ) (stack : List ℤ) (out : List ℕ) where
    pub run_text_unique : {report report' : List ℕ} {table table' stack' stack'' : List ℤ} {out' out'' : List ℕ} →
        WithAnswer (Compiled limits text n) (RanTextInto text readings budget stack out n report table stack' out') → WithAnswer (Compiled limits text n) (RanTextInto text readings budget stack out n report' table' stack'' out'') →
        (report ≡ report') × (table ≡ table') × (stack' ≡ stack'') × (out' ≡ out'')
    run_text_unique p q =
        let b = both (λ a c. one_compiled limits text n) p q in
        (b.1.reported ∙ sym b.2.reported, b.1.code ∙ sym b.2.code, b.1.cells ∙ sym b.2.cells, b.1.room ∙ sym b.2.room)

pub tidy_unique : (limits : Limits) (text : List ℕ) (room : ℕ) {report report' after after' : List ℕ} → TidyInto limits text room report after → TidyInto limits text room report' after' → (report ≡ report') × (after ≡ after')
tidy_unique limits text room p q = let b = both (λ a c. one_judged limits text) p q in (b.1.reported ∙ sym b.2.reported, b.1.holds ∙ sym b.2.holds)
