-- How many instructions a sentence has, wherever its code stands (`laid`, in Laid).
use Prim.Native.Nat.{ℕ, ◌+◌}
use Rattle.sentence.specs.Sentences as S
use Rattle.sentence.specs.Sentences.{Sign, Kind, Sen, literal, variable, bracket, first, multiply, unsigned, signed, add, negated, compare, print, print_line, print_string, declare, input, assign, error, while, when, block, single, then}

abbrev pub leading_size : Sign → ℕ
leading_size S.plus = 0
leading_size S.minus = 1

unfoldable pub size : {k : Kind} → Sen ℕ k → ℕ
size (literal n) = 1
size (variable k) = 1
size (bracket e) = size e
size (first f) = size f
size (multiply t o f) = size t + size f + 1
size (unsigned t) = size t
size (signed g t) = size t + leading_size g
size (add e g t) = size e + size t + 1
size (negated c) = size c + 1
size (compare d r e) = size d + size e + 1
size (print e) = size e + 1
size (print_line q) = 1
size (print_string q) = 1
size (declare k) = 2
size (input k) = 2
size (assign k e) = size e + 1
size error = 1
size (while c m) = size c + 1 + size m + 1
size (when c m) = size c + 1 + size m
size (block ms) = size ms
size (single m) = size m
size (then ms m) = size ms + size m
