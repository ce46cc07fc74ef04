-- What is said of what came of a text stands on its page. Assumes nothing.
use mathlib.Core.Path.{◌≡◌, refl}
use mathlib.Core.Bool.{Bool, true, false, cond, ◌&&◌}
use mathlib.Core.List.{List, [], ◌++◌}
use Prim.Native.Nat.{ℕ, ◌+◌, ◌≤◌}
use native.Mathlib.Omega.{arith}
use borrow.Author.Tests.{eq-eqb, ne_eqb}
use lib.Dec.{eqb, leb}
use lib.ListN.{length, take, length-append}
use lib.Seq.{take-length}
use Rattle.std.proofs.Common.{Ok, Err}
use Rattle.base.specs.declared.Refused.{Refused}
use Rattle.machine.specs.declared.Report as Code
use Rattle.reports.specs.Reports.{sendable}
use Rattle.lines.specs.Added.{Added}
use Rattle.lines.specs.Lines.{line_end, refused_line, ending_line}
use Rattle.lines.proofs.Short.{Small, short_ending}
use Rattle.tells.specs.Tells.{status_of, said_of_run, sent}
use Rattle.tells.specs.Writes.{Writes, with_output, number}
use Rattle.tells.specs.declared.Status.{Status}
use Rattle.tells.specs.declared.Status.TheVariants.{Good, NotGood}
use Rattle.tells.proofs.Pages.{said_bytes, said_page, untouched, output_short}

pub told_short : (k e s : ℕ) (room : List ℕ) → Small e → Small s → length (take k room ++ line_end ++ ending_line e s) ≤ length room + 96
told_short k e s room h i = simp length-append (omega (arith, output_short k room, short_ending e s h i))

-- what may be sent is the output or nothing
sendable_short : (e : ℕ) (output : List ℕ) (room : ℕ) → length output ≤ room → length (sendable e (length output) output) ≤ room
unfolding sendable
sendable_short e output room h = by (eqb e 0 && leb (length output) (length output))
  where
    by : (t : Bool) → length (cond t (take (length output) output) []) ≤ room
    by true = rw (take-length output) h
    by false = omega arith

-- ---- what each program says, by what came

module _ (room : List ℕ) {page page' : List ℕ} {end : ℕ} where
  pub sent_refused : (r : Refused) {out : List ℕ} → length (refused_line r.why r.place) ≤ length page → Added (refused_line r.why r.place) page 0 page' end → Writes (sent (with_output (Err r) room)) (record { out = 0; err = end; status = NotGood }) out out page page'
  unfolding sent with_output
  sent_refused r {out} short a = record { written = refl; page = untouched out; noted = said_bytes a short; note = said_page a short; status = refl }

  module _ (r : Code.Report) where
    pub told_ran : (status : Status) → number status ≡ status_of r.ending → length (take r.length room ++ line_end ++ ending_line r.ending r.steps) ≤ length page → Added (take r.length room ++ line_end ++ ending_line r.ending r.steps) page 0 page' end → Writes (said_of_run (with_output (Ok r) room)) (record { out = end; err = 0; status = status }) page page' [] []
    unfolding said_of_run with_output
    told_ran status e short a = record { written = said_bytes a short; page = said_page a short; noted = refl; note = untouched []; status = e }

    module _ (short : length (take r.length room) ≤ length page) (a : Added (sendable r.ending (length (take r.length room)) (take r.length room)) page 0 page' end) where
      pub sent_ran : {note : List ℕ} → r.ending ≡ 0 → Writes (sent (with_output (Ok r) room)) (record { out = end; err = 0; status = Good }) page page' note note
      unfolding sent with_output status_of
      sent_ran {note} e =
          let fits = sendable_short r.ending (take r.length room) (length page) short in
          rw (eq-eqb r.ending 0 e) (record { written = said_bytes a fits; page = said_page a fits; noted = refl; note = untouched note; status = refl })

      pub sent_not : {note note' : List ℕ} {size : ℕ} → (r.ending ≡ 0 → ⊥) → length (ending_line r.ending r.steps) ≤ length note → Added (ending_line r.ending r.steps) note 0 note' size → Writes (sent (with_output (Ok r) room)) (record { out = end; err = size; status = NotGood }) page page' note note'
      unfolding sent with_output status_of
      sent_not e few b =
          let fits = sendable_short r.ending (take r.length room) (length page) short in
          rw (ne_eqb r.ending 0 e) (record { written = said_bytes a fits; page = said_page a fits; noted = said_bytes b few; note = said_page b few; status = refl })
