-- The contracts of `lesson`, `listing`, `copy`, `station` and `feed` leave one result, and one content of the room and of each page. Assumes nothing.
use mathlib.Core.Path.{◌≡◌, refl, sym, ap, ◌∙◌}
use mathlib.Core.List.{List}
use Prim.Native.Nat.{ℕ}
use Rattle.std.specs.Prelude.{Result, Ok}
use Rattle.limits.specs.Limits.{Limits}
use Rattle.base.specs.declared.Refused.{Refused}
use Rattle.base.specs.Answers.{Answer}
use Rattle.rules.specs.Machine.{Report}
use Rattle.machine.proofs.Runs.{one_reported}
use Rattle.machine.specs.declared.Report as Code
use Rattle.compiler.specs.Compiled.{Accepted, WithAnswer}
use Rattle.compiler.proofs.Judging.{one_judged, one_compiled}
use Rattle.compiler.proofs.Unique.{both}
use Rattle.tells.specs.Tells as T
use Rattle.tells.specs.Writes.{Writes}
use Rattle.tells.specs.declared.Said.{Said}
use Rattle.tells.proofs.Unique.{one_written}
use Rattle.programs.specs.Programs.{Tabled}
use Rattle.programs.specs.Comes.{Comes, refused_so, ran, Tells, Copies}

one_came : {room : List ℕ} {a : Answer Report} {c c' : Result Code.Report Refused} {room' room'' : List ℕ} → Comes room a c room' → Comes room a c' room'' → (c ≡ c') × (room' ≡ room'')
one_came (refused_so why p) (refused_so _ _) = (refl, refl)
one_came (ran w r x) (ran _ s y) = let e = one_reported x y in (ap Ok e.0, e.1)

module _ (limits : Limits) (text : List ℕ) where
  pub lesson_unique : (room : List ℕ) (come : Answer Accepted → Answer Report) {c c' : Result Code.Report Refused} {room' room'' : List ℕ} → WithAnswer (Tabled limits text) (λ a. Comes room (come a) c room') → WithAnswer (Tabled limits text) (λ a. Comes room (come a) c' room'') → (c ≡ c') × (room' ≡ room'')
  lesson_unique room come p q = let b = both (λ a c. one_compiled limits text _) p q in one_came b.1 b.2

  pub listing_unique : (say : Answer Accepted → T.Said) {r r' : Said} (out : List ℕ) {out' out'' : List ℕ} (err : List ℕ) {err' err'' : List ℕ} → WithAnswer (Tabled limits text) (λ a. Writes (say a) r out out' err err') → WithAnswer (Tabled limits text) (λ a. Writes (say a) r' out out'' err err'') → (r ≡ r') × (out' ≡ out'') × (err' ≡ err'')
  listing_unique say out err p q = let b = both (λ a c. one_compiled limits text _) p q in one_written b.1 b.2

  pub copy_unique : {r r' : Said} (page : List ℕ) {page' page'' : List ℕ} → Copies limits text r page page' → Copies limits text r' page page'' → (r ≡ r') × (page' ≡ page'')
  copy_unique page p q =
      let b = both (λ a c. one_judged limits text) p q in
      let e = one_written b.1 b.2 in
      (e.0, e.1)

  pub telling_unique : (say : Answer Report → T.Said) (come : Answer Accepted → Answer Report) (room : List ℕ) {r r' : Said} {room' room'' : List ℕ} (out : List ℕ) {out' out'' : List ℕ} (err : List ℕ) {err' err'' : List ℕ} →
      WithAnswer (Tabled limits text) (λ a. Tells say (come a) room r room' out out' err err') → WithAnswer (Tabled limits text) (λ a. Tells say (come a) room r' room'' out out'' err err'') → (r ≡ r') × (room' ≡ room'') × (out' ≡ out'') × (err' ≡ err'')
  telling_unique say come room out err p q =
      let b = both (λ a c. one_compiled limits text _) p q in
      let e = one_written b.1.says b.2.says in
      (e.0, b.1.after ∙ sym b.2.after, e.1, e.2)
