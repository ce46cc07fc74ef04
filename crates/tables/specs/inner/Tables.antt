-- How the code writes a table: a pair at a time, as far as the table has room.
use Rattle.std.specs.Prelude.{List, [], ◌∷◌, cond, ℕ, suc, ◌*◌, ◌/◌, ltb, ℤ, pos, length, replicate}
use Rattle.std.proofs.lemmas.List.Edits.{sets}
use Rattle.instruction.specs.Instructions.{Instruction, push_int, encode}

-- a pair at the n-th place, if the table has that place
unfoldable pub put : List ℤ → ℕ → List ℤ → List ℤ
put table n numbers = cond (ltb n (length table / 2)) (sets table (n * 2) numbers) table

-- a number that an operand can hold, else 0
unfoldable pub operand_of : ℕ → ℕ
operand_of n = cond (ltb n 2147483648) n 0

-- instructions from the n-th place on
unfoldable pub emit : List ℤ → ℕ → List Instruction → List ℤ
emit table n [] = table
emit table n (i ∷ is) = emit (put table n (encode i [])) (suc n) is

-- one `PushInt 0` for each cell
unfoldable pub opening : ℕ → List ℤ → List ℤ
opening cells table = emit table 0 (replicate cells (push_int (pos 0)))
