-- Laws of writing what sentences are laid out as. Assumes nothing.
use mathlib.Core.Path.{◌≡◌, refl, ap, ◌∙◌}
use mathlib.Core.List.{List, ◌++◌}
use Prim.Native.Nat.{ℕ, ◌+◌}
use lib.IntN.{ℤ}
use Rattle.lexeme.specs.inner.Coded.{kind_of, fixed_number, code_of}
use Rattle.sentence.proofs.Operators.{number_of}
use Rattle.sentence.specs.Sentences.{Sign, plus, minus, Mul, times, over, Rel, less, greater, equal, sign, mul, rel, Kind, Sen}
use Rattle.instruction.specs.Instructions.{Instruction, number}
use Rattle.tables.specs.inner.Tables.{emit}
use Rattle.tables.proofs.Emits.{emit_append}
use Rattle.meaning.specs.Layout.{of_mul, of_sign, of_rel, code}
use Rattle.meaning.proofs.Sizes.{size}
use Rattle.meaning.proofs.Laid.{laid}
use Rattle.compiler.specs.inner.Steps.{operation_number}

-- what follows a sentence's code
pub emit_code : {k : Kind} (table : List ℤ) (a : ℕ) (y : Sen ℕ k) (is : List Instruction) → emit table a (code a y ++ is) ≡ emit (emit table a (code a y)) (a + size y) is
emit_code table a y is = emit_append table a (code a y) is ∙ ap (λ n. emit (emit table a (code a y)) (a + n) is) (laid a y).long

-- ---- the operations of symbols

pub mul_operation : (o : Mul) → operation_number (number_of (mul o)) ≡ number (of_mul o)
unfolding operation_number mul kind_of fixed_number code_of number
mul_operation times = refl
mul_operation over = refl

pub sign_operation : (g : Sign) → operation_number (number_of (sign g)) ≡ number (of_sign g)
unfolding operation_number sign kind_of fixed_number code_of number
sign_operation plus = refl
sign_operation minus = refl

pub rel_operation : (r : Rel) → operation_number (number_of (rel r)) ≡ number (of_rel r)
unfolding operation_number rel kind_of fixed_number code_of number
rel_operation less = refl
rel_operation greater = refl
rel_operation equal = refl
