-- What `judge` and `compile` promise: the answer as the code gives it, and what the table then holds.
use Rattle.std.specs.Prelude.{◌≡◌, List, ℕ, ℤ, length, Result, Ok, Err}
use Rattle.base.specs.Answers as A
use Rattle.base.specs.Answers.{given, refused}
use Rattle.base.specs.declared.Refused.{Refused}
use Rattle.tables.specs.declared.Counts.{Counts}
use Rattle.compiler.specs.Compiled as C
use Rattle.compiler.specs.Compiled.{code_of_text, need_of, table_after}

-- the answer as the code gives it: an accepted text's counts, or the refusal
unfoldable pub answered : A.Answer C.Accepted → Result Counts Refused
answered (given a) = Ok (record { instructions = length (code_of_text a); cells = a.cells; need = need_of a })
answered (refused why p) = Err (record { why = why; place = p })

-- the answer r, and the table of n numbers, are those of a
pub record Compiles (n : ℕ) (r : Result Counts Refused) (table : List ℤ) (a : A.Answer C.Accepted) : Type 0 where
  pub answer : r ≡ answered a
  pub numbers : table ≡ table_after n a
