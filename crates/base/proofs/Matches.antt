-- What the default of a match on the numbers from 1 on is told. Assumes nothing.
use mathlib.Core.Path.{◌≡◌, ◌∙◌}
use mathlib.Core.Bool.{false}
use Prim.Native.Nat.{ℕ, zero, suc, ◌≤◌, ◌<◌}
use native.Mathlib.Decide.{ℕ_discrete}
use native.Mathlib.Omega.{arith}
use lib.Dec.{eqb}
use borrow.Author.Tests.{ne_eqb}

-- n is none of 1 to k
abbrev pub none_of : ℕ → ℕ → Type 0
none_of zero n = Unit {0}
none_of (suc k) n = none_of k n × (n ≡ suc k → ⊥)

pub miss : (k n : ℕ) → none_of k n → (j : ℕ) → 0 < j → j ≤ k → eqb n j ≡ false
miss zero n r j p q = absurd (omega arith)
miss (suc k) n r j p q = by (ℕ_discrete j (suc k)) (miss k n r.0 j p)
  where
    by : Dec (j ≡ suc k) → (j ≤ k → eqb n j ≡ false) → eqb n j ≡ false
    by (yes e) f = ne_eqb n j (λ (h : n ≡ j). r.1 (h ∙ e))
    by (no e) f = f (omega (arith, e))
