-- What `compile`, `run`, `run_text` and `tidy` promise of their answers, they promise of the answers' numbers. Assumes nothing.
use mathlib.Core.Path.{◌≡◌, refl, ap, ◌∙◌}
use mathlib.Core.Bool.{Bool, true, false, cond, and-true}
use mathlib.Core.List.{List, [], ◌++◌}
use Prim.Native.Nat.{ℕ}
use native.Mathlib.Omega.{arith}
use borrow.Author.Tests.{le-leb}
use lib.Dec.{eqb}
use lib.IntN.{ℤ}
use lib.ListN.{length, take, drop, length-append}
use lib.Seq.{take_at}
use Rattle.endings.specs.Endings.{normal}
use Rattle.limits.specs.Limits.{Limits}
use Rattle.base.specs.Answers as A
use Rattle.base.specs.Answers.{given, refused}
use Rattle.rules.specs.Machine.{Report, room_after}
use Rattle.machine.specs.Promise.{Ran}
use Rattle.machine.specs.declared.Report as Code
use Rattle.std.specs.Prelude.{Result}
use Rattle.base.specs.declared.Refused.{Refused}
use Rattle.tables.specs.declared.Counts.{Counts}
use Rattle.compiler.specs.Answers.{answered, Compiles}
use Rattle.compiler.specs.Compiled as C
use Rattle.compiler.specs.Compiled.{WithAnswer, table_after}
use Rattle.compiler.proofs.Judging.{with_answer}
use Rattle.tidy.specs.Tidy.{Tidy, tidy_numbers}
use Rattle.tidy.specs.declared.Uncopied.{Uncopied}
use Rattle.reports.specs.Reports.{sendable, answer_numbers, run_numbers, text_numbers}
use Rattle.kit.specs.Kit.{own_run, ComesTo, refused_so, ran, OutcomeOf}
use Rattle.export.specs.Reports.{RanInto, five, CompiledInto, may_send, seven, stack_left, room_left, Means, RanTextInto, TidyInto}

answer_five : (a : A.Answer C.Accepted) → answer_numbers (answered a) ≡ five a
unfolding answered answer_numbers five
answer_five (given x) = refl
answer_five (refused why p) = refl

pub compiled_into : {Given : A.Answer C.Accepted → Type 0} {n : ℕ} {r : Result Counts Refused} {table : List ℤ} {report : List ℕ} → WithAnswer Given (Compiles n r table) → report ≡ answer_numbers r → WithAnswer Given (CompiledInto n report table)
compiled_into w e = with_answer w (λ a _ s. record { reported = e ∙ (ap answer_numbers s.answer ∙ answer_five a); code = s.numbers })

pub ran_into : {w : Report} {cells cells' : List ℤ} {before after : List ℕ} {r : Code.Report} {report : List ℕ} → Ran w cells before r cells' after → report ≡ run_numbers r → RanInto w cells before report cells' after
ran_into q e = let s = q.reported in record { reported = rw (e, s.ending, s.steps, s.used, s.size); stack = q.stack; room = s.room }

-- what may be sent is the output, or nothing
sent_length : (w : Report) (out : List ℕ) → length (sendable w.ending (length w.output) (room_after w.output out)) ≡ may_send w
unfolding sendable may_send room_after
sent_length w out = rw (le-leb (length w.output) (length (w.output ++ drop (length w.output) out)) (omega (arith, length-append w.output (drop (length w.output) out))), and-true) (by (eqb w.ending normal))
  where
    by : (b : Bool) → length (cond b (take (length w.output) (w.output ++ drop (length w.output) out)) []) ≡ cond b (length w.output) 0
    by true = ap length (take_at w.output (drop (length w.output) out) (length w.output) refl)
    by false = refl

module _ (text : List ℕ) (readings : List ℤ) (budget : ℕ) (stack : List ℤ) (out : List ℕ) (n : ℕ) where
  came_into : {table' stack' : List ℤ} {out' : List ℕ} {a : A.Answer C.Accepted} {c : Result Code.Report Refused} → ComesTo text readings budget stack out a c stack' out' → table' ≡ table_after n a → RanTextInto text readings budget stack out n (text_numbers c out') table' stack' out' a
  unfolding text_numbers seven stack_left room_left Means
  came_into (refused_so why p) t = record { reported = refl; code = t; cells = refl; room = refl; means = tt }
  came_into (ran a r w f) t =
      let x = w.reported in
      record { reported = rw (x.ending, x.steps, x.used, x.size, x.room, sent_length (own_run text readings budget stack out a) out); code = t; cells = w.stack; room = x.room; means = f }

  pub text_ran_into : {Given : A.Answer C.Accepted → Type 0} {c : Result Code.Report Refused} {table' stack' : List ℤ} {out' report : List ℕ} → WithAnswer Given (OutcomeOf text readings budget stack out n c table' stack' out') → report ≡ text_numbers c out' → WithAnswer Given (RanTextInto text readings budget stack out n report table' stack' out')
  text_ran_into w e = rw e (with_answer w (λ a _ s. came_into s.comes s.numbers))

pub tidied_into : {limits : Limits} {text : List ℕ} {room : ℕ} {r : Result ℕ Uncopied} {after report : List ℕ} → Tidy limits text room r after → report ≡ tidy_numbers r → TidyInto limits text room report after
tidied_into w e = with_answer w (λ a _ s. record { reported = e ∙ ap tidy_numbers s.answer; holds = s.holds })
