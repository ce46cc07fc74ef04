-- Stores one after another, and a table of pairs. Assumes nothing.
use Prim.Native.Nat.{ℕ, suc, ◌+◌, ◌-◌, ◌≤◌, ◌<◌}
use mathlib.Core.Path.{◌≡◌}
use mathlib.Core.List.{List, [], ◌∷◌}
use native.Mathlib.Numerals.{add-one}
use native.Mathlib.Omega.{arith}
use lib.IntN.{ℤ}
use lib.ListN.{replicate}
use Rattle.instruction.specs.Instructions.{Instruction, encode}
use Rattle.tables.specs.inner.Tables.{put, emit}

-- a loop that stores v up to a place: what is left to store, before and after one store
rest_of : {A : Type 0} (v : A) (n i : ℕ) → i < n → replicate (n - i) v ≡ v ∷ replicate (n - (i + 1)) v
rest_of v n i h = let e : n - i ≡ suc (n - (i + 1)) = omega arith in rw e

-- the same for instructions
pub emit_on : (x : Instruction) (table : List ℤ) (n i : ℕ) → i < n → emit (put table i (encode x [])) (i + 1) (replicate (n - (i + 1)) x) ≡ emit table i (replicate (n - i) x)
unfolding emit
emit_on x table n i h = rw (rest_of x n i h, add-one)

pub emit_out : (x : Instruction) (table : List ℤ) (n i : ℕ) → n ≤ i → table ≡ emit table i (replicate (n - i) x)
unfolding emit
emit_out x table n i h = let e : n - i ≡ 0 = omega arith in rw e
