-- Code written over a table of zeros is the code's numbers, then zeros. Assumes nothing.
use Prim.Native.Nat.{ℕ, suc, ◌+◌, ◌*◌, ◌/◌, ◌≤◌, ◌<◌}
use mathlib.Core.Path.{◌≡◌, refl, ◌∙◌}
use mathlib.Core.List.{List, [], ◌∷◌}
use native.Mathlib.Omega.{arith}
use borrow.Author.Tests.{lt-ltb}
use lib.IntN.{ℤ, pos}
use lib.ListN.{length, replicate, length-replicate}
use lib.Seq.{sets, sets-eq, length-sets}
use Rattle.std.proofs.lemmas.List.{drop-replicate}
use Rattle.instruction.specs.Instructions.{Instruction, encode, numbers}
use Rattle.instruction.proofs.Pairs.{Written, written, length_numbers}
use Rattle.tables.specs.inner.Tables.{put, emit}
use Rattle.tables.specs.Filled.{filled}

-- an instruction is two numbers, in front of what follows
is_pair : (i : Instruction) → (a b : ℤ) × ((t : List ℤ) → encode i t ≡ a ∷ b ∷ t)
unfolding Written
is_pair i = let w = written i in (w.0, w.1, w.2)

pub emit_sets : (is : List Instruction) (table : List ℤ) (n : ℕ) → n + length is ≤ length table / 2 → emit table n is ≡ sets table (n * 2) (numbers is)
unfolding emit put numbers
emit_sets [] table n h = refl
emit_sets (i ∷ is) table n h =
    let l : n < length table / 2 = omega arith in
    let e : suc n * 2 ≡ suc (suc (n * 2)) = omega arith in
    rw (lt-ltb n (length table / 2) l)
    (emit_sets is (sets table (n * 2) (encode i [])) (suc n) (rw length-sets (omega arith))
    ∙ rw (e, (is_pair i).2 [], (is_pair i).2 (numbers is)))

pub filled_by_code : (n : ℕ) (is : List Instruction) → length is ≤ n / 2 → emit (replicate n (pos 0)) 0 is ≡ filled n (numbers is)
unfolding filled
filled_by_code n is h =
    let k = length (numbers is) in
    let e : 0 + k ≡ k = omega arith in
    emit_sets is (replicate n (pos 0)) 0 (rw length-replicate (omega arith))
    ∙ sets-eq (numbers is) (replicate n (pos 0)) 0 (rw length-replicate (omega (arith, length_numbers is)))
    ∙ rw (e, drop-replicate)
