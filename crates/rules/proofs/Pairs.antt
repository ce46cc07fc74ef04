-- A table of the numbers of some instructions holds those instructions. Assumes nothing.
use mathlib.Core.Path.{◌≡◌, refl, sym}
use mathlib.Core.List.{List, [], ◌∷◌}
use mathlib.Core.Bool.{Bool, true, false, cond}
use mathlib.Core.Option.{none}
use Prim.Native.Nat.{ℕ, zero, suc, ◌%◌, ◌≤◌}
use native.Mathlib.Omega.{arith}
use lib.Dec.{ltb, eqb}
use lib.ListN.{length, get_elem?}
use borrow.Author.Tests.{ltb-false, eq-eqb}
use Rattle.instruction.specs.Instructions.{Instruction, numbers}
use Rattle.instruction.proofs.Pairs.{AllSound, length_numbers, decoded_at}
use Rattle.rules.specs.Machine.{Lent, pairs, fetched}

outside : (is : List Instruction) (a : ℕ) → length is ≤ a → get_elem? is a ≡ none
outside [] a h = refl
outside (i ∷ is) zero h = absurd (omega arith)
outside (i ∷ is) (suc a) h = outside is a (omega arith)

module _ (is : List Instruction) (sound : AllSound is) where
  -- the length is even, so that the table is run
  pub even : eqb (length (numbers is) % 2) 0 ≡ true
  even = eq-eqb (length (numbers is) % 2) 0 (omega (arith, length_numbers is))

  module _ (lent : Lent) (holds : lent.table ≡ numbers is) where
    pub pairs_are : pairs lent ≡ length is
    unfolding pairs
    pairs_are = rw holds (omega (arith, length_numbers is))

    pub fetched_is : (a : ℕ) → fetched lent a ≡ get_elem? is a
    unfolding fetched
    fetched_is a = rw (pairs_are, holds, decoded_at is sound a) (by (ltb a (length is)) refl)
      where
        by : (b : Bool) → ltb a (length is) ≡ b → cond b (get_elem? is a) none ≡ get_elem? is a
        by true e = refl
        by false e = sym (outside is a (ltb-false a (length is) e))
