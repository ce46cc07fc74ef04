-- Demand 3 as a promise: what comes of a text, by its own code and by its sentences.
use Rattle.std.specs.Prelude.{◌≡◌, List, ℕ, ◌≤◌, ℤ, length, Result, Ok, Err}
use Rattle.base.specs.declared.Refusal.{Refusal}
use Rattle.base.specs.declared.Refused.{Refused}
use Rattle.base.specs.Answers.{Answer, given, refused}
use Rattle.instruction.specs.Instructions.{numbers}
use Rattle.rules.specs.Machine.{Report, report, whole_run}
use Rattle.machine.specs.Promise as Promise
use Rattle.machine.specs.Promise.{lends}
use Rattle.machine.specs.declared.Report as Code
use Rattle.meaning.specs.Meaning.{meaning}
use Rattle.compiler.specs.Compiled.{Accepted, code_of_text, need_of, table_after}

-- what the sentences of an accepted text come to
unfoldable pub worked_out : List ℤ → ℕ → ℕ → Accepted → Report
worked_out readings room budget a = report budget (meaning readings room a.cells a.command budget)

module _ (text : List ℕ) (readings : List ℤ) (budget : ℕ) (stack : List ℤ) (out : List ℕ) where
  -- the run of an accepted text's own code
  unfoldable pub own_run : Accepted → Report
  own_run a = whole_run (lends text (numbers (code_of_text a)) readings stack out) budget

  -- on a stack of at least the need it is what the sentences come to
  unfoldable pub Faithful : Accepted → Type 0
  Faithful a = need_of a ≤ length stack → own_run a ≡ worked_out readings (length out) budget a

  -- the outcome, and the stack and the room after it
  pub data ComesTo : Answer Accepted → Result Code.Report Refused → List ℤ → List ℕ → Type 0 where
    refused_so : (why : Refusal) (p : ℕ) → ComesTo (refused why p) (Err (record { why = why; place = p })) stack out
    ran : (a : Accepted) (r : Code.Report) {stack' : List ℤ} {out' : List ℕ} → Promise.Ran (own_run a) stack out r stack' out' → Faithful a → ComesTo (given a) (Ok r) stack' out'

  -- with the code table, of n numbers, as the compiler leaves it
  pub record OutcomeOf (n : ℕ) (r : Result Code.Report Refused) (table' : List ℤ) (stack' : List ℤ) (out' : List ℕ) (a : Answer Accepted) : Type 0 where
    pub comes : ComesTo a r stack' out'
    pub numbers : table' ≡ table_after n a
