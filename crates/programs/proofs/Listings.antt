-- The listing, from what `compile` promises. Assumes nothing.
use mathlib.Core.Path.{◌≡◌, refl}
use mathlib.Core.List.{List, []}
use Prim.Native.Nat.{ℕ}
use lib.IntN.{ℤ}
use Rattle.base.specs.Answers.{given, refused}
use Rattle.base.specs.Answers as A
use Rattle.tables.specs.declared.Counts.{Counts}
use Rattle.base.specs.declared.Refused.{Refused}
use Rattle.std.specs.Prelude.{Result}
use Rattle.compiler.specs.Answers.{answered, Compiles}
use Rattle.compiler.specs.Compiled.{Accepted, WithAnswer, table_after}
use Rattle.compiler.proofs.Judging.{with_answer}
use Rattle.kit.proofs.Comes.{first_part}
use Rattle.tells.specs.Tells.{said_of_answer}
use Rattle.tells.specs.Writes.{Writes}
use Rattle.tells.specs.declared.Said.{Said}
use Rattle.programs.specs.Programs.{listed}

-- what is said of an answer and its table is what is said of the text
said_so : (n : ℕ) (a : A.Answer Accepted) → said_of_answer (answered a) (table_after n a) ≡ listed a
unfolding answered said_of_answer listed
said_so n (given a) = rw (first_part n a)
said_so n (refused why p) = refl

pub lists : {Given : A.Answer Accepted → Type 0} {n : ℕ} {r : Result Counts Refused} {table : List ℤ} {s : Said} {page page' : List ℕ} → WithAnswer Given (Compiles n r table) → Writes (said_of_answer r table) s page page' [] [] → WithAnswer Given (λ a. Writes (listed a) s page page' [] [])
lists {n = n} w x = with_answer w (λ a _ t. rw (t.answer, t.numbers, said_so n a) at x)
