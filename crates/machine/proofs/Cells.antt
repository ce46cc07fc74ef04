-- The live cells as the definitions have them, the top first, and the cells as the code writes them. Assumes nothing.
use mathlib.Core.Path.{◌≡◌, refl, sym, ap}
use mathlib.Core.List.{List, ◌∷◌}
use mathlib.Core.Bool.{Bool, true, false, cond}
use Prim.Native.Nat.{ℕ, zero, suc, ◌-◌, ◌≤◌, ◌<◌}
use native.Mathlib.Nat.{sub-zero}
use native.Mathlib.Omega.{arith}
use lib.Dec.{eqb}
use lib.IntN.{ℤ, pos}
use lib.ListN.{length, get_or, drop, set}
use lib.Seq.{get_or-set_same, get_or-set_other}
use borrow.Author.Tests.{eqb-true, eqb-false}
use Rattle.rules.specs.Machine.{peek, poke}
use Rattle.machine.specs.inner.Coded.{live}

pub length_live : (d : ℕ) (cells : List ℤ) → length (live d cells) ≡ d
unfolding live
length_live zero cells = refl
length_live (suc d) cells = ap suc (length_live d cells)

-- the cells from the depth on do not count
pub live_above : (d i : ℕ) (cells : List ℤ) (v : ℤ) → d ≤ i → live d (set cells i v) ≡ live d cells
unfolding live
live_above zero i cells v h = refl
live_above (suc d) i cells v h =
    rw (get_or-set_other cells i d v (pos 0) (λ (e : d ≡ i). omega arith), live_above d i cells v (omega arith))

pub live_push : (d : ℕ) (cells : List ℤ) (v : ℤ) → d < length cells → live (suc d) (set cells d v) ≡ v ∷ live d cells
unfolding live
live_push d cells v h = rw (get_or-set_same cells d v (pos 0) h, live_above d d cells v (omega arith))

live_top : (d : ℕ) (cells : List ℤ) → 1 ≤ d → live d cells ≡ get_or cells (d - 1) (pos 0) ∷ live (d - 1) cells
unfolding live
live_top zero cells h = absurd (omega arith)
live_top (suc d) cells h = let e : suc d - 1 ≡ d = omega arith in rw e

-- the values on top, and what is below them
pub live_first : (d : ℕ) (cells : List ℤ) → 1 ≤ d → get_or (live d cells) 0 (pos 0) ≡ get_or cells (d - 1) (pos 0)
live_first d cells h = rw (live_top d cells h)

pub live_second : (d : ℕ) (cells : List ℤ) → 2 ≤ d → get_or (live d cells) 1 (pos 0) ≡ get_or cells (d - 2) (pos 0)
live_second d cells h =
    let e : d - 1 - 1 ≡ d - 2 = omega arith in
    rw (live_top d cells (omega arith), live_top (d - 1) cells (omega arith), e)

pub live_drop : (n d : ℕ) (cells : List ℤ) → n ≤ d → drop n (live d cells) ≡ live (d - n) cells
unfolding live
live_drop zero d cells h = rw (sub-zero d)
live_drop (suc n) zero cells h = absurd (omega arith)
live_drop (suc n) (suc d) cells h = let e : suc d - suc n ≡ d - n = omega arith in rw e (live_drop n d cells (omega arith))

module _ (k d : ℕ) (cells : List ℤ) where
  peek_by : (t : Bool) → eqb k d ≡ t → (k < d → peek k (live d cells) ≡ get_or cells k (pos 0)) → k < suc d → cond t (get_or cells d (pos 0)) (peek k (live d cells)) ≡ get_or cells k (pos 0)
  peek_by true e f h = rw (eqb-true k d e)
  peek_by false e f h = let n = eqb-false k d e in f (omega arith)

  poke_by : (x : ℤ) (t : Bool) → eqb k d ≡ t → (k < d → poke k x (live d cells) ≡ live d (set cells k x)) → k < suc d → suc d ≤ length cells → cond t (x ∷ live d cells) (get_or cells d (pos 0) ∷ poke k x (live d cells)) ≡ live (suc d) (set cells k x)
  unfolding live
  poke_by x true e f h b = rw (eqb-true k d e) (sym (live_push d cells x b))
  poke_by x false e f h b =
      let n = eqb-false k d e in
      rw (f (omega arith), get_or-set_other cells k d x (pos 0) (λ (q : d ≡ k). n (sym q)))

-- a cell is counted from the bottom, in both
pub peek_live : (d k : ℕ) (cells : List ℤ) → k < d → peek k (live d cells) ≡ get_or cells k (pos 0)
unfolding live peek
peek_live zero k cells h = absurd (omega arith)
peek_live (suc d) k cells h = rw (length_live d cells) (peek_by k d cells (eqb k d) refl (peek_live d k cells) h)

pub poke_live : (d k : ℕ) (cells : List ℤ) (x : ℤ) → k < d → d ≤ length cells → poke k x (live d cells) ≡ live d (set cells k x)
unfolding live poke
poke_live zero k cells x h b = absurd (omega arith)
poke_live (suc d) k cells x h b =
    rw (length_live d cells) (poke_by k d cells x (eqb k d) refl (λ (p : k < d). poke_live d k cells x p (omega arith)) h b)
