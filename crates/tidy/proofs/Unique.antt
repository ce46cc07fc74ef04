-- The contract of `tidy` leaves one answer, and one content of the room. Assumes nothing.
use mathlib.Core.Path.{◌≡◌, sym, ◌∙◌}
use mathlib.Core.List.{List}
use Prim.Native.Nat.{ℕ}
use Rattle.std.specs.Prelude.{Result}
use Rattle.limits.specs.Limits.{Limits}
use Rattle.compiler.proofs.Judging.{one_judged}
use Rattle.compiler.proofs.Unique.{both}
use Rattle.tidy.specs.Tidy.{Tidy}
use Rattle.tidy.specs.declared.Uncopied.{Uncopied}

pub tidy_unique : (limits : Limits) (text : List ℕ) (room : ℕ) {r r' : Result ℕ Uncopied} {after after' : List ℕ} → Tidy limits text room r after → Tidy limits text room r' after' → (r ≡ r') × (after ≡ after')
tidy_unique limits text room p q = let b = both (λ a c. one_judged limits text) p q in (b.1.answer ∙ sym b.2.answer, b.1.holds ∙ sym b.2.holds)
