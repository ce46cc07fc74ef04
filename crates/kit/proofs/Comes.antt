-- What comes of a text, from what `compile` and `run` promise: a law for each outcome of `run_text`. Assumes nothing.
use mathlib.Core.Path.{◌≡◌, ap, ◌∙◌}
use mathlib.Core.List.{List}
use Prim.Native.Nat.{ℕ, ◌*◌, ◌≤◌}
use native.Mathlib.Omega.{arith}
use lib.IntN.{ℤ}
use lib.ListN.{length, take, length-append}
use lib.Seq.{take_at}
use Rattle.limits.specs.Limits.{Limits}
use Rattle.base.specs.declared.Refused.{Refused}
use Rattle.base.specs.Answers.{given, refused}
use Rattle.instruction.specs.Instructions.{numbers}
use Rattle.instruction.proofs.Pairs.{length_numbers}
use Rattle.rules.specs.Machine.{whole_run}
use Rattle.machine.specs.Promise.{lends, Ran}
use Rattle.machine.specs.declared.Report as Code
use Rattle.tables.specs.Filled.{filled}
use Rattle.tables.specs.declared.Counts.{Counts}
use Rattle.compiler.specs.Answers.{Compiles}
use Rattle.compiler.specs.Compiled.{Accepted, code_of_text, Compiled, WithAnswer, table_after}
use Rattle.compiler.proofs.Decides.{Took, took, refusal}
use Rattle.kit.specs.Kit.{own_run, Faithful, refused_so, ran, OutcomeOf}
use Rattle.std.specs.Prelude.{Result, Ok, Err}
use Rattle.kit.proofs.Faithful.{faithful}

-- a text's own code is its table's first part
pub first_part : (n : ℕ) (a : Accepted) → take (length (code_of_text a) * 2) (table_after n (given a)) ≡ numbers (code_of_text a)
unfolding table_after filled
first_part n a = take_at (numbers (code_of_text a)) _ (length (code_of_text a) * 2) (omega (arith, length_numbers (code_of_text a)))

module _ (limits : Limits) (text : List ℕ) (n : ℕ) (table : List ℤ) where
  abbrev Answers : Result Counts Refused → Type 0
  Answers r = WithAnswer (Compiled limits text n) (Compiles n r table)

  took_text : {k : Counts} → Answers (Ok k) → Took (Compiled limits text n) (Compiles n (Ok k) table) k
  took_text w = took w (λ a s. s.answer)

  module _ {k : Counts} (w : Answers (Ok k)) where
    own_code : take (k.instructions * 2) table ≡ numbers (code_of_text (took_text w).what)
    own_code = let t = took_text w in ap (take (k.instructions * 2)) t.so.numbers ∙ (rw t.long at (first_part n t.what))

    pub room : k.instructions * 2 ≤ length table
    unfolding table_after filled
    room = let t = took_text w in omega (arith, ap length t.so.numbers ∙ length-append (numbers (code_of_text t.what)) _, length_numbers (code_of_text t.what), t.long)

  module _ (readings : List ℤ) (budget : ℕ) (stack : List ℤ) (out : List ℕ) where
    abbrev Comes : Result Code.Report Refused → List ℤ → List ℕ → Type 0
    Comes o stack' out' = WithAnswer (Compiled limits text n) (OutcomeOf text readings budget stack out n o table stack' out')

    pub comes_refused : {e : Refused} → Answers (Err e) → Comes (Err e) stack out
    comes_refused {e} w = let t = refusal w (λ a s. s.answer) in record { answer = refused e.why e.place; is_given = t.0; so = record { comes = refused_so e.why e.place; numbers = t.1.numbers } }

    pub comes_ran : {k : Counts} → Answers (Ok k) → {x : Code.Report} {stack' : List ℤ} {out' : List ℕ} → Ran (whole_run (lends text (take (k.instructions * 2) table) readings stack out) budget) stack out x stack' out' → Comes (Ok x) stack' out'
    unfolding own_run Faithful
    comes_ran w {x} v =
        let t = took_text w in
        record { answer = given t.what; is_given = t.is_given; so = record { comes = ran t.what x (rw (own_code w) at v) (faithful limits text n t.what t.is_given readings (length out) (length stack) budget); numbers = t.so.numbers } }
