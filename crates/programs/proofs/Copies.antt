-- What is told of a copy stands on its page; and what the program says of it, from what `tidy` promises. Assumes nothing.
use mathlib.Core.Path.{◌≡◌, refl, ap}
use mathlib.Core.Bool.{Bool, true, false, cond}
use mathlib.Core.List.{List, [], ◌++◌}
use Prim.Native.Nat.{ℕ, ◌+◌, ◌-◌, ◌≤◌}
use native.Mathlib.Omega.{arith}
use Rattle.std.specs.Prelude.{Result, Ok, Err}
use lib.ListN.{length, take, replicate, length-append}
use lib.Seq.{take_at}
use Rattle.limits.specs.Limits.{Limits}
use Rattle.base.specs.Answers.{Answer, given, refused}
use Rattle.compiler.specs.Compiled.{Accepted}
use Rattle.compiler.proofs.Judging.{with_answer}
use Rattle.tidy.specs.Tidy.{tidy_of, longer, tidied, bytes, copy_and_zeros, Tidy, no_room}
use Rattle.tidy.specs.declared.Uncopied.{Uncopied}
use Rattle.tidy.specs.declared.Uncopied.TheVariants.{NoRoom}
use Rattle.lines.specs.Added.{Added}
use Rattle.lines.specs.Lines.{line_end, refusal_line}
use Rattle.tells.specs.Writes.{Writes}
use Rattle.tells.specs.declared.Said.{Said}
use Rattle.tells.specs.declared.Status.TheVariants.{Good, NotGood}
use Rattle.tells.proofs.Pages.{said_bytes, said_page, untouched, output_short}
use Rattle.programs.specs.Programs.{copy, no_copy, copied}
use Rattle.programs.specs.Comes.{Copies}
use Rattle.programs.specs.inner.Copies.{said_of_copy}

-- ---- what is told, by what came of the copy

module _ (room : List ℕ) {page page' : List ℕ} {end : ℕ} {t : Result ℕ Uncopied} where
  pub told_no_room : t ≡ Err NoRoom → length (refusal_line no_room 0) ≤ length page → Added (refusal_line no_room 0) page 0 page' end → Writes (said_of_copy t room) (record { out = end; err = 0; status = NotGood }) page page' [] []
  unfolding said_of_copy
  told_no_room is short a = rw is (record { written = said_bytes a short; page = said_page a short; noted = refl; note = untouched []; status = refl })

  pub told_copied : {n : ℕ} → t ≡ Ok n → length room + 1 ≤ length page → Added (take n room ++ line_end) page 0 page' end → Writes (said_of_copy t room) (record { out = end; err = 0; status = Good }) page page' [] []
  unfolding said_of_copy
  told_copied {n} is long a =
      let short : length (take n room ++ line_end) ≤ length page = omega (arith, length-append (take n room) line_end, output_short n room) in
      rw is (record { written = said_bytes a short; page = said_page a short; noted = refl; note = untouched []; status = refl })

-- ---- what is said of a text

-- what is said of an answer and its room is what is said of the text
said_so : (limits : Limits) (text : List ℕ) (a : Answer Accepted) → said_of_copy (tidied limits text limits.text a) (copy_and_zeros limits text limits.text a) ≡ copied limits text a
unfolding said_of_copy tidied bytes copied
said_so limits text (given a) = by (longer limits text limits.text)
  where
    t : List ℕ
    t = tidy_of limits.sizes text

    by : (b : Bool) → said_of_copy (cond b (Err NoRoom) (Ok (length t))) (cond b [] t ++ replicate (limits.text - length (cond b [] t)) 0) ≡ cond b no_copy (copy t)
    by true = refl
    by false = ap copy (take_at t (replicate (limits.text - length t) 0) (length t) refl)
said_so limits text (refused why p) = refl

pub copies : (limits : Limits) (text : List ℕ) {n : ℕ} → n ≡ limits.text → {t : Result ℕ Uncopied} {room : List ℕ} {s : Said} {page page' : List ℕ} → Tidy limits text n t room → Writes (said_of_copy t room) s page page' [] [] → Copies limits text s page page'
copies limits text e w x = with_answer (rw e at w) (λ a _ y. rw (y.answer, y.holds, said_so limits text a) at x)
