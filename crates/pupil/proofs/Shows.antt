-- What is shown, by what came. Assumes nothing.
use mathlib.Core.Path.{◌≡◌, refl}
use mathlib.Core.List.{List, []}
use Prim.Native.Nat.{ℕ, ◌≤◌}
use lib.ListN.{length, take}
use Rattle.std.proofs.Common.{Ok, Err}
use Rattle.base.specs.declared.Refused.{Refused}
use Rattle.machine.specs.declared.Report as Code
use Rattle.lines.specs.Added.{Added}
use Rattle.marks.specs.Shown.{Widths}
use Rattle.words.specs.declared.Numbers.{Numbers}
use Rattle.tells.specs.Tells.{status_of}
use Rattle.tells.specs.Writes.{Writes, with_output, number}
use Rattle.tells.specs.declared.Status.{Status}
use Rattle.tells.specs.declared.Status.TheVariants.{NotGood}
use Rattle.tells.proofs.Pages.{said_bytes, said_page, untouched}
use Rattle.pupil.specs.Shows.{shown_refusal, shown_run, shown}

module _ (w : Widths) (n : Numbers) (text room : List ℕ) {page page' : List ℕ} {end : ℕ} where
  pub shown_refused : (r : Refused) → length (shown_refusal w n text r.why r.place) ≤ length page → Added (shown_refusal w n text r.why r.place) page 0 page' end → Writes (shown w n text (with_output (Err r) room)) (record { out = end; err = 0; status = NotGood }) page page' [] []
  unfolding shown with_output
  shown_refused r short a = record { written = said_bytes a short; page = said_page a short; noted = refl; note = untouched []; status = refl }

  pub shown_ran : (r : Code.Report) (status : Status) → number status ≡ status_of r.ending →
      let s = shown_run n (record { ending = r.ending; steps = r.steps; used = r.used; output = take r.length room }) in
      length s ≤ length page → Added s page 0 page' end → Writes (shown w n text (with_output (Ok r) room)) (record { out = end; err = 0; status = status }) page page' [] []
  unfolding shown with_output
  shown_ran r status e short a = record { written = said_bytes a short; page = said_page a short; noted = refl; note = untouched []; status = e }
