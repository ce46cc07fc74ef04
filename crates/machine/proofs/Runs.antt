-- Laws of a run, at the place where the loop stands. Assumes nothing.
use mathlib.Core.Path.{◌≡◌, refl, sym, ◌∙◌}
use mathlib.Core.List.{List}
use Prim.Native.Nat.{ℕ, ◌-◌, ◌%◌}
use lib.IntN.{ℤ}
use lib.ListN.{length, take, take-append-drop}
use lib.Seq.{length-take-le}
use Rattle.endings.specs.Endings.{bad_code}
use Rattle.rules.specs.Machine.{Lent, Stopped, end_of, Report, report, whole_run, room_after}
use Rattle.rules.proofs.Runs.{odd_table}
use Rattle.machine.specs.declared.Report as Code
use Rattle.moves.specs.declared.State.{State}
use Rattle.machine.specs.inner.Coded.{machine_of, Good, reports}
use Rattle.machine.specs.Promise.{Reported, Ran}

-- the room is what was printed, and past it what it was
pub room_is : {lent : Lent} {before : List ℕ} {s : State} {cells : List ℤ} {room : List ℕ} → Good lent before s cells room → room ≡ room_after (take s.printed room) before
unfolding room_after
room_is {s = s} {room = room} g = rw (length-take-le s.printed room g.within, ← g.past) (sym (take-append-drop s.printed room))

-- where the run ended, so is it reported
pub reported : {lent : Lent} {before : List ℕ} {s : State} {cells : List ℤ} {room : List ℕ} → Good lent before s cells room → (budget e left steps : ℕ) (w : Stopped) → record { ending = e; left = left; machine = machine_of s cells room } ≡ w → steps ≡ budget - left → Reported (report budget (end_of w)) before (reports e steps s) room
unfolding report
reported {s = s} {room = room} g budget e left steps w p q = rw (← p) (record {
  ending = refl;
  steps = q;
  used = refl;
  size = sym (length-take-le s.printed room g.within);
  room = room_is g;
})

-- a table of odd length leaves the room as it was
pub not_run : (lent : Lent) (budget : ℕ) (before : List ℕ) → (length lent.table % 2 ≡ 0 → ⊥) → Reported (whole_run lent budget) before (record { ending = bad_code; steps = 0; used = 0; length = 0 }) before
unfolding room_after
not_run lent budget before h = rw (odd_table lent budget h) (record { ending = refl; steps = refl; used = refl; size = refl; room = refl })

-- any two results that meet the promise are the same
pub one_reported : {w : Report} {before : List ℕ} {r r' : Code.Report} {after after' : List ℕ} → Reported w before r after → Reported w before r' after' → (r ≡ r') × (after ≡ after')
one_reported {r = r} {r' = r'} a b =
    let same : record { ending = r.ending; steps = r.steps; used = r.used; length = r.length } ≡ r' = rw (a.ending ∙ sym b.ending, a.steps ∙ sym b.steps, a.used ∙ sym b.used, a.size ∙ sym b.size) in
    (same, a.room ∙ sym b.room)

pub only_one : {w : Report} {cells : List ℤ} {before : List ℕ} {r r' : Code.Report} {st st' : List ℤ} {after after' : List ℕ} → Ran w cells before r st after → Ran w cells before r' st' after' → (r ≡ r') × ((st ≡ st') × (after ≡ after'))
only_one p q = let e = one_reported p.reported q.reported in (e.0, (p.stack ∙ sym q.stack, e.1))
