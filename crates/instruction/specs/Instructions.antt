-- Document 01, "Instructions": the nineteen, one pair of numbers each.
use Rattle.std.specs.Prelude.{List, [], ◌∷◌, cond, ℕ, ltb, eqb, ℤ, pos, negsuc, nat_abs, get_or}
use Rattle.std.proofs.Math.Option.{Option, none, some}
use Rattle.numbers.specs.Numbers.{TwoSidedOperation, plus, minus, times, divide, equals, smaller, greater, is_false}

pub data Instruction : Type 0 where
  halt : ℕ → Instruction
  push_int : ℤ → Instruction
  load_stack store_stack : ℕ → Instruction
  jump jump_if_false : ℕ → Instruction
  two_sided : TwoSidedOperation → Instruction
  negate not read print_int : Instruction
  print_str print_str_ln : ℕ → Instruction

-- ---- from an instruction to its pair

unfoldable pub number : TwoSidedOperation → ℤ
number plus = pos 7
number minus = pos 8
number times = pos 9
number divide = pos 10
number equals = pos 11
number smaller = pos 12
number greater = pos 13

-- the instruction's two numbers, before those that follow
unfoldable pub encode : Instruction → List ℤ → List ℤ
encode (halt h) t = pos 1 ∷ pos h ∷ t
encode (push_int v) t = pos 2 ∷ v ∷ t
encode (load_stack k) t = pos 3 ∷ pos k ∷ t
encode (store_stack k) t = pos 4 ∷ pos k ∷ t
encode (jump a) t = pos 5 ∷ pos a ∷ t
encode (jump_if_false a) t = pos 6 ∷ pos a ∷ t
encode (two_sided o) t = number o ∷ pos 0 ∷ t
encode negate t = pos 14 ∷ pos 0 ∷ t
encode not t = pos 15 ∷ pos 0 ∷ t
encode read t = pos 16 ∷ pos 0 ∷ t
encode print_int t = pos 17 ∷ pos 0 ∷ t
encode (print_str s) t = pos 18 ∷ pos s ∷ t
encode (print_str_ln s) t = pos 19 ∷ pos s ∷ t

-- the numbers of a code table
unfoldable pub numbers : List Instruction → List ℤ
numbers [] = []
numbers (i ∷ is) = encode i (numbers is)

-- ---- from a pair to its instruction; none for bad code

-- an unused operand is 0
unfoldable pub alone : Instruction → ℤ → Option Instruction
alone i a = cond (is_false a) (some i) none

-- a negative operand is bad
unfoldable pub natural : (ℕ → Instruction) → ℤ → Option Instruction
natural f (pos n) = some (f n)
natural f (negsuc n) = none

-- a Halt's operand is 0 or 1
unfoldable pub halting : ℤ → Option Instruction
halting (pos n) = cond (ltb n 2) (some (halt n)) none
halting (negsuc n) = none

-- the number of an instruction's operation, which stands in the table above
unfoldable pub opcode : Instruction → ℕ
opcode i = nat_abs (get_or (encode i []) 0 (pos 0))

-- each operation by its number; 0 is none, and so is any number past the last
unfoldable pub operation : ℕ → ℤ → Option Instruction
operation n a =
    cond (eqb n (opcode (halt 0))) (halting a)
    (cond (eqb n (opcode (push_int a))) (some (push_int a))
    (cond (eqb n (opcode (load_stack 0))) (natural load_stack a)
    (cond (eqb n (opcode (store_stack 0))) (natural store_stack a)
    (cond (eqb n (opcode (jump 0))) (natural jump a)
    (cond (eqb n (opcode (jump_if_false 0))) (natural jump_if_false a)
    (cond (eqb n (opcode (two_sided plus))) (alone (two_sided plus) a)
    (cond (eqb n (opcode (two_sided minus))) (alone (two_sided minus) a)
    (cond (eqb n (opcode (two_sided times))) (alone (two_sided times) a)
    (cond (eqb n (opcode (two_sided divide))) (alone (two_sided divide) a)
    (cond (eqb n (opcode (two_sided equals))) (alone (two_sided equals) a)
    (cond (eqb n (opcode (two_sided smaller))) (alone (two_sided smaller) a)
    (cond (eqb n (opcode (two_sided greater))) (alone (two_sided greater) a)
    (cond (eqb n (opcode negate)) (alone negate a)
    (cond (eqb n (opcode not)) (alone not a)
    (cond (eqb n (opcode read)) (alone read a)
    (cond (eqb n (opcode print_int)) (alone print_int a)
    (cond (eqb n (opcode (print_str 0))) (natural print_str a)
    (cond (eqb n (opcode (print_str_ln 0))) (natural print_str_ln a)
    none))))))))))))))))))

unfoldable pub decode : ℤ → ℤ → Option Instruction
decode (pos n) a = operation n a
decode (negsuc n) a = none

-- ---- what each takes from the stack, and what it gives

unfoldable pub effect : Instruction → ℕ × ℕ
effect (halt h) = (0, 0)
effect (push_int v) = (0, 1)
effect (load_stack k) = (0, 1)
effect (store_stack k) = (1, 0)
effect (jump a) = (0, 0)
effect (jump_if_false a) = (1, 0)
effect (two_sided o) = (2, 1)
effect negate = (1, 1)
effect not = (1, 1)
effect read = (0, 1)
effect print_int = (1, 0)
effect (print_str s) = (0, 0)
effect (print_str_ln s) = (0, 0)

abbrev pub takes : Instruction → ℕ
takes i = (effect i).0

abbrev pub gives : Instruction → ℕ
gives i = (effect i).1
