-- The variables as the cells at the bottom of a stack.
use mathlib.Core.Path.{◌≡◌, refl, ap}
use mathlib.Core.List.{List, [], ◌∷◌, ◌++◌}
use mathlib.Core.Bool.{Bool, true, false, cond}
use Prim.Native.Nat.{ℕ, zero, suc, ◌+◌, ◌<◌}
use native.Mathlib.Omega.{arith}
use lib.Dec.{eqb}
use lib.IntN.{ℤ}
use lib.ListN.{length, length-append}
use borrow.Author.Tests.{eqb-true, eqb-false, eq-eqb, ne_eqb}
use Rattle.rules.specs.Machine.{peek, poke}

-- the first d variables, the last on top
unfoldable pub cells : ℕ → (ℕ → ℤ) → List ℤ
cells zero f = []
cells (suc d) f = f d ∷ cells d f

pub length_cells : (d : ℕ) (f : ℕ → ℤ) → length (cells d f) ≡ d
unfolding cells
length_cells zero f = refl
length_cells (suc d) f = ap suc (length_cells d f)

pub deep : (d : ℕ) (ts : List ℤ) (f : ℕ → ℤ) → length (ts ++ cells d f) ≡ length ts + d
deep d ts f = rw (length-append, length_cells)

cells_same : (d : ℕ) (f g : ℕ → ℤ) → ((j : ℕ) → j < d → f j ≡ g j) → cells d f ≡ cells d g
unfolding cells
cells_same zero f g e = refl
cells_same (suc d) f g e = rw (e d (omega arith), cells_same d f g (λ j h. e j (omega arith)))

-- the variables with one of them changed
abbrev changed : ℕ → ℤ → (ℕ → ℤ) → ℕ → ℤ
changed k v f j = cond (eqb j k) v (f j)

module _ (k : ℕ) (f : ℕ → ℤ) where
  peek_cell : (d : ℕ) → k < d → peek k (cells d f) ≡ f k
  unfolding peek cells
  peek_cell zero h = absurd (omega arith)
  peek_cell (suc d) h = by (eqb k (length (cells d f))) refl (peek_cell d)
    where
      by : (b : Bool) → eqb k (length (cells d f)) ≡ b → (k < d → peek k (cells d f) ≡ f k) → cond b (f d) (peek k (cells d f)) ≡ f k
      by true e ih = let q : d ≡ k = omega (arith, eqb-true k (length (cells d f)) e, length_cells d f) in rw q
      by false e ih = ih (omega (arith, eqb-false k (length (cells d f)) e, length_cells d f))

  -- the values on top don't matter
  pub peek_below : (d : ℕ) (ts : List ℤ) → k < d → peek k (ts ++ cells d f) ≡ f k
  unfolding peek
  peek_below d [] h = peek_cell d h
  peek_below d (t ∷ ts) h = rw (ne_eqb k (length (ts ++ cells d f)) (λ e. omega (arith, deep d ts f)), peek) (peek_below d ts h)

  poke_cell : (v : ℤ) (d : ℕ) → k < d → poke k v (cells d f) ≡ cells d (changed k v f)
  unfolding poke cells
  poke_cell v zero h = absurd (omega arith)
  poke_cell v (suc d) h = by (eqb k (length (cells d f))) refl (poke_cell v d)
    where
      by : (b : Bool) → eqb k (length (cells d f)) ≡ b → (k < d → poke k v (cells d f) ≡ cells d (changed k v f)) → cond b (v ∷ cells d f) (f d ∷ poke k v (cells d f)) ≡ cells (suc d) (changed k v f)
      by true e ih =
          rw (eq-eqb d k (omega (arith, eqb-true k (length (cells d f)) e, length_cells d f)))
          (ap {B = List ℤ} (λ r. v ∷ r) (cells_same d f (changed k v f) (λ j l. rw (ne_eqb j k (λ q. omega (arith, eqb-true k (length (cells d f)) e, length_cells d f))))))
      by false e ih =
          rw (ne_eqb d k (λ q. omega (arith, eqb-false k (length (cells d f)) e, length_cells d f))) (ap {B = List ℤ} (λ r. f d ∷ r) (ih (omega (arith, eqb-false k (length (cells d f)) e, length_cells d f))))

  pub poke_below : (v : ℤ) (d : ℕ) (ts : List ℤ) → k < d → poke k v (ts ++ cells d f) ≡ ts ++ cells d (changed k v f)
  unfolding poke
  poke_below v d [] h = poke_cell v d h
  poke_below v d (t ∷ ts) h = rw (ne_eqb k (length (ts ++ cells d f)) (λ e. omega (arith, deep d ts f)), poke) (ap {B = List ℤ} (λ r. t ∷ r) (poke_below v d ts h))
