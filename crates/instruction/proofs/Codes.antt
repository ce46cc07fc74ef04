-- Operation numbers and operands, as the code's tests tell of them. Assumes nothing.
use mathlib.Core.Path.{◌≡◌, refl}
use mathlib.Core.Bool.{Bool, true, false, cond}
use mathlib.Core.Option.{none, some}
use Prim.Native.Nat.{ℕ, zero, suc, ◌≤◌, ◌<◌}
use native.Mathlib.Omega.{arith}
use lib.Dec.{leb, eqb}
use lib.IntN.{ℤ, pos, negsuc}
use mir.Syntax.{w32}
use mir.Val.{SFits, of_z}
use borrow.Author.Tests.{le-ltb, leb-true, ne_eqb}
use Rattle.std.specs.Bool.{then_some}
use Rattle.instruction.specs.inner.Coded.{as_done, as_instruction}
use Rattle.instruction.specs.declared.decode.Op.{Op}
use Rattle.instruction.specs.Instructions.{number, encode, halting, opcode, operation, decode}

-- an operation number that the match found
pub found : (z a : ℤ) → SFits w32 z → of_z w32 z < 20 → decode z a ≡ operation (of_z w32 z) a
unfolding decode
found (pos n) a f p = refl
found (negsuc n) a f p = absurd (omega (arith, f.sfits))

-- a Halt's operand that the code's tests found to be neither 0 nor 1
pub no_halting : (a : ℤ) → (of_z w32 a ≡ 0 → ⊥) → (of_z w32 a ≡ 1 → ⊥) → none ≡ halting a
unfolding halting
no_halting (pos n) p q = rw (le-ltb n 2 (past n p q))
  where
    past : (n : ℕ) → (n ≡ 0 → ⊥) → (n ≡ 1 → ⊥) → 2 ≤ n
    past n p q = omega (arith, p, q)
no_halting (negsuc n) p q = refl

-- a number that is none of 1 to 19 is no operation
pub no_operation : (z a : ℤ) → (0 < of_z w32 z → 19 < of_z w32 z) → none ≡ decode z a
unfolding decode operation opcode encode number
no_operation (pos zero) a r = refl
no_operation (pos (suc n)) a r = simp other
  where
    other : (j : ℕ) → leb j 19 ≡ true → eqb (suc n) j ≡ false
    other j h = ne_eqb (suc n) j (λ (e : suc n ≡ j). omega (arith, leb-true j 19 h, r))
no_operation (negsuc n) a r = refl

-- what stands where a test holds, and bad code where it fails
pub tested : (t : Bool) (o : Op) → as_instruction (then_some t o) ≡ cond t (some (as_done o)) none
tested true o = refl
tested false o = refl
