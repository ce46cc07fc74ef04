-- The stack need is never more than the code's length: each value was pushed by an instruction of its own. Assumes nothing.
use Prim.Native.Nat.{ℕ, ◌≤◌}
use native.Mathlib.Omega.{arith}
use lib.ListN.{length}
use Rattle.sentence.specs.Sentences.{Kind, Sen, command, literal, variable, bracket, first, multiply, unsigned, signed, add, negated, compare, print, print_line, print_string, declare, input, assign, error, while, when, block, single, then}
use Rattle.meaning.specs.Layout.{need, program_code, program_need}
use Rattle.meaning.proofs.Sizes.{size}
use Rattle.meaning.proofs.Laid.{laid_program}

need_size : {k : Kind} (x : Sen ℕ k) → need x ≤ size x
unfolding need size
need_size (literal n) = omega arith
need_size (variable k) = omega arith
need_size (bracket e) = need_size e
need_size (first f) = need_size f
need_size (multiply t o f) = omega (arith, need_size t, need_size f)
need_size (unsigned t) = need_size t
need_size (signed g t) = omega (arith, need_size t)
need_size (add e g t) = omega (arith, need_size e, need_size t)
need_size (negated c) = omega (arith, need_size c)
need_size (compare d r e) = omega (arith, need_size d, need_size e)
need_size (print e) = omega (arith, need_size e)
need_size (print_line q) = omega arith
need_size (print_string q) = omega arith
need_size (declare k) = omega arith
need_size (input k) = omega arith
need_size (assign k e) = omega (arith, need_size e)
need_size error = omega arith
need_size (while c m) = omega (arith, need_size c, need_size m)
need_size (when c m) = omega (arith, need_size c, need_size m)
need_size (block ms) = need_size ms
need_size (single m) = need_size m
need_size (then ms m) = omega (arith, need_size ms, need_size m)

pub need_within : (cells : ℕ) (m : Sen ℕ command) → program_need cells m ≤ length (program_code cells m)
unfolding program_need
need_within cells m = omega (arith, need_size m, (laid_program cells m).long)
