-- What comes of a text: its stack need is never more than the instructions, so that it does what its sentences mean. Assumes nothing.
use mathlib.Core.Path.{◌≡◌}
use mathlib.Core.List.{List}
use Prim.Native.Nat.{ℕ, ◌*◌, ◌≤◌}
use native.Mathlib.Omega.{arith}
use lib.IntN.{ℤ}
use lib.ListN.{length}
use Rattle.limits.specs.Limits.{Limits}
use Rattle.base.specs.Answers.{Answer, given, pass}
use Rattle.meaning.proofs.Needs.{need_within}
use Rattle.compiler.specs.Compiled.{Accepted, code_of_text, need_of, accepted, Compiled, fits, WithAnswer}
use Rattle.compiler.proofs.Judging.{with_answer}
use Rattle.kit.specs.Kit.{Faithful, ComesTo, refused_so, ran, OutcomeOf}
use Rattle.machine.specs.declared.Report as Code
use Rattle.base.specs.declared.Refused.{Refused}
use Rattle.std.specs.Prelude.{Result}
use Rattle.programs.specs.Programs.{Tabled, came}
use Rattle.programs.specs.Comes.{Comes}
use Rattle.programs.specs.Comes as S

-- an accepted text's need is at most the instructions
few : (limits : Limits) (text : List ℕ) (n : ℕ) {a : Accepted} → Compiled limits text n (given a) → length (code_of_text a) ≤ limits.instructions
few limits text n (fits (accepted _ h) _) = h

pub need_fits : (limits : Limits) (text : List ℕ) (n : ℕ) (a : Accepted) → Compiled limits text n (given a) → need_of a ≤ limits.instructions
unfolding need_of code_of_text
need_fits limits text n a c = omega (arith, need_within a.cells a.command, few limits text n c)

-- ---- what comes of a text, from what `run_text` promises

module _ (limits : Limits) (text : List ℕ) (zs stack : List ℤ) (budget : ℕ) (room : List ℕ) (cells : length stack ≡ limits.instructions) where
  came_so : {a : Answer Accepted} {c : Result Code.Report Refused} {stack' : List ℤ} {room' : List ℕ} → Tabled limits text a → ComesTo text zs budget stack room a c stack' room' → Comes room (came budget (length room) zs a) c room'
  unfolding came pass Faithful
  came_so g (refused_so why p) = S.refused_so why p
  came_so g (ran a r w f) = S.ran _ r (rw (f (omega (arith, need_fits limits text (limits.instructions * 2) a g))) at w.reported)

  pub comes_so : {c : Result Code.Report Refused} {table' stack' : List ℤ} {room' : List ℕ} → WithAnswer (Tabled limits text) (OutcomeOf text zs budget stack room (limits.instructions * 2) c table' stack' room') → WithAnswer (Tabled limits text) (λ a. Comes room (came budget (length room) zs a) c room')
  comes_so w = with_answer w (λ a g o. came_so g o.comes)
