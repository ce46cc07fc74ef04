-- A test that every row has at most so many bytes. Assumes nothing.
use mathlib.Core.Path.{◌≡◌, refl}
use mathlib.Core.Bool.{Bool, true, false, not}
use mathlib.Core.List.{List, [], ◌∷◌}
use Prim.Native.Nat.{ℕ, zero, suc, ◌≤◌}
use native.Mathlib.Omega.{arith}
use lib.Dec.{eqb}
use lib.ListN.{length, drop}
use Rattle.base.specs.Bytes.{run}
use Rattle.rows.specs.Rows.{no_mark, nth}

module _ (mark most : ℕ) where
  -- so many are left of this row
  unfoldable pub few : ℕ → List ℕ → Bool
  few left [] = true
  few zero (b ∷ s) = elim (eqb b mark) [ true ↦ few most s | false ↦ false ]
  few (suc left) (b ∷ s) = elim (eqb b mark) [ true ↦ few most s | false ↦ few left s ]

  abbrev RowFew : ℕ → List ℕ → List ℕ → Type 0
  RowFew left s row = (length row ≤ left) × (few most (drop (suc (length row)) s) ≡ true)

  row_few : (s : List ℕ) (left : ℕ) → few left s ≡ true → RowFew left s (run (no_mark mark) s)
  unfolding few run no_mark
  row_few [] left h = (omega arith, refl)
  row_few (b ∷ s) zero h = by (eqb b mark) h
    where
      by : (t : Bool) → (elim t as (λ _. Bool) [ true ↦ few most s | false ↦ false ]) ≡ true → RowFew zero (b ∷ s) (elim (not t) [ true ↦ b ∷ run (no_mark mark) s | false ↦ [] ])
      by true h = (omega arith, h)
      by false h = let z : ◌≡◌ {A = ℕ} 0 1 = cc in absurd (omega arith)
  row_few (b ∷ s) (suc left) h = by (row_few s left) (eqb b mark) h
    where
      by : (few left s ≡ true → RowFew left s (run (no_mark mark) s)) → (t : Bool) → (elim t as (λ _. Bool) [ true ↦ few most s | false ↦ few left s ]) ≡ true → RowFew (suc left) (b ∷ s) (elim (not t) [ true ↦ b ∷ run (no_mark mark) s | false ↦ [] ])
      by on true h = (omega arith, h)
      by on false h = (omega (arith, (on h).0), (on h).1)

  pub nth_few : (n : ℕ) (s : List ℕ) → few most s ≡ true → length (nth mark n s) ≤ most
  unfolding nth
  nth_few zero s h = (row_few s most h).0
  nth_few (suc n) s h = nth_few n (drop (suc (length (run (no_mark mark) s))) s) (row_few s most h).1
