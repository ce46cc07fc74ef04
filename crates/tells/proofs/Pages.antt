-- What was added to a page from its beginning, where there is room for all of it, is what is said. Assumes nothing.
use mathlib.Core.Path.{◌≡◌, refl, ap, ◌∙◌}
use mathlib.Core.List.{List, []}
use Prim.Native.Nat.{ℕ, ◌+◌, ◌≤◌}
use native.Mathlib.Omega.{arith}
use lib.ListN.{length, take, drop, length-append, length-take}
use lib.Seq.{sets-eq}
use Rattle.rules.specs.Machine.{room_after}
use Rattle.base.specs.declared.Refused.{Refused}
use Rattle.lines.specs.Added.{Added}
use Rattle.lines.specs.Lines.{refused_line}
use Rattle.lines.proofs.Short.{Small, short_refused}
use Rattle.tells.specs.Tells as T
use Rattle.tells.specs.Writes.{Writes, number}
use Rattle.tells.specs.declared.Said.{Said}
use Rattle.tells.specs.declared.Status.TheVariants.{NotGood}

module _ {s page page' : List ℕ} {end : ℕ} (a : Added s page 0 page' end) (room : length s ≤ length page) where
  pub said_bytes : end ≡ length s
  said_bytes = omega (arith, a.next)

  pub said_page : page' ≡ room_after s page
  unfolding room_after
  said_page = let e : 0 + length s ≡ length s = omega arith in a.bytes ∙ (sets-eq s page 0 (omega arith) ∙ rw e)

-- nothing is said on a page that is not lent, or that stays as it was
pub untouched : (page : List ℕ) → page ≡ room_after [] page
unfolding room_after
untouched page = refl

-- the line of a refusal, where the page has room for a line
pub refusal_written : (r : Refused) {s : Said} {page page' : List ℕ} → 96 ≤ length page → Small r.place → Added (refused_line r.why r.place) page 0 page' s.out → (s.err ≡ 0) × (s.status ≡ NotGood) → Writes (T.refusal r.why r.place) s page page' [] []
refusal_written r {s} {page} room small a rest =
    let short : length (refused_line r.why r.place) ≤ length page = omega (arith, short_refused r.why r.place small) in
    record { written = said_bytes a short; page = said_page a short; noted = rest.0; note = untouched []; status = ap number rest.1 }

-- ---- how long it is

pub output_short : (k : ℕ) (room : List ℕ) → length (take k room) ≤ length room
output_short k room = rw (length-take k room) (omega arith)

-- ---- for who takes what is said off a page: it is all there

on_one : (s page : List ℕ) {page' : List ℕ} {n : ℕ} → n ≡ length s → page' ≡ room_after s page → n ≤ length page'
unfolding room_after
on_one s page e p = rw (e, p) (omega (arith, length-append s (drop (length s) page)))

module _ {s : T.Said} {r : Said} {out out' err err' : List ℕ} (x : Writes s r out out' err err') where
  pub on_page : r.out ≤ length out'
  on_page = on_one s.out out x.written x.page

  pub on_note : r.err ≤ length err'
  on_note = on_one s.err err x.noted x.note
