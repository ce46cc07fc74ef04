-- Document 01, "Instructions": the layout of each sentence, and its stack need.
use Rattle.std.specs.Prelude.{List, [], ◌∷◌, ◌++◌, ℕ, ◌+◌, max, pos, length, replicate}
use Rattle.sentence.specs.Sentences as S
use Rattle.sentence.specs.Sentences.{Sign, Mul, Rel, Kind, Sen, command, literal, variable, bracket, first, multiply, unsigned, signed, add, negated, compare, print, print_line, print_string, declare, input, assign, error, while, when, block, single, then}
use Rattle.numbers.specs.Numbers.{TwoSidedOperation, plus, minus, times, divide, equals, smaller, greater}
use Rattle.instruction.specs.Instructions.{Instruction, halt, push_int, load_stack, store_stack, jump, jump_if_false, two_sided, negate, not, read, print_int, print_str, print_str_ln}

-- ---- operators and relations

abbrev pub of_mul : Mul → TwoSidedOperation
of_mul S.times = times
of_mul S.over = divide

abbrev pub of_sign : Sign → TwoSidedOperation
of_sign S.plus = plus
of_sign S.minus = minus

abbrev pub of_rel : Rel → TwoSidedOperation
of_rel S.less = smaller
of_rel S.greater = greater
of_rel S.equal = equals

-- leading minus: Negate after the Term; leading plus: nothing
abbrev pub leading : Sign → List Instruction
leading S.plus = []
leading S.minus = negate ∷ []

-- ---- the code

-- the instructions of a sentence whose first stands at the place a
unfoldable pub code : {k : Kind} → ℕ → Sen ℕ k → List Instruction
code a (literal n) = push_int (pos n) ∷ []
code a (variable k) = load_stack k ∷ []
code a (bracket e) = code a e
code a (first f) = code a f
code a (multiply t o f) = let left = code a t in left ++ (code (a + length left) f ++ two_sided (of_mul o) ∷ [])
code a (unsigned t) = code a t
code a (signed g t) = code a t ++ leading g
code a (add e g t) = let left = code a e in left ++ (code (a + length left) t ++ two_sided (of_sign g) ∷ [])
code a (negated c) = code a c ++ not ∷ []
code a (compare d r e) = let left = code a d in left ++ (code (a + length left) e ++ two_sided (of_rel r) ∷ [])
code a (print e) = code a e ++ print_int ∷ []
code a (print_line q) = print_str_ln q.place ∷ []
code a (print_string q) = print_str q.place ∷ []
code a (declare k) = push_int (pos 0) ∷ store_stack k ∷ []
code a (input k) = read ∷ store_stack k ∷ []
code a (assign k e) = code a e ++ store_stack k ∷ []
code a error = halt 1 ∷ []
code a (while c m) =
    let test = code a c in
    let body = code (a + length test + 1) m in
    test ++ jump_if_false (a + length test + 1 + length body + 1) ∷ (body ++ jump a ∷ [])
code a (when c m) =
    let test = code a c in
    let body = code (a + length test + 1) m in
    test ++ jump_if_false (a + length test + 1 + length body) ∷ body
code a (block ms) = code a ms
code a (single m) = code a m
code a (then ms m) = let first = code a ms in first ++ code (a + length first) m

-- first one `PushInt 0` per declaration, then the Command, then `Halt 0`
unfoldable pub program_code : ℕ → Sen ℕ command → List Instruction
program_code cells m = replicate cells (push_int (pos 0)) ++ (code cells m ++ halt 0 ∷ [])

-- ---- the stack need

unfoldable pub need : {k : Kind} → Sen ℕ k → ℕ
need (literal n) = 1
need (variable k) = 1
need (bracket e) = need e
need (first f) = need f
need (multiply t o f) = max (need t) (1 + need f)
need (unsigned t) = need t
need (signed g t) = need t
need (add e g t) = max (need e) (1 + need t)
need (negated c) = need c
need (compare d r e) = max (need d) (1 + need e)
need (print e) = need e
need (print_line q) = 0
need (print_string q) = 0
need (declare k) = 1
need (input k) = 1
need (assign k e) = need e
need error = 0
need (while c m) = max (need c) (need m)
need (when c m) = max (need c) (need m)
need (block ms) = need ms
need (single m) = need m
need (then ms m) = max (need ms) (need m)

unfoldable pub program_need : ℕ → Sen ℕ command → ℕ
program_need cells m = cells + need m
