-- The run of a Program's code is its meaning.
use mathlib.Core.Path.{◌≡◌, refl, ap, ◌∙◌}
use mathlib.Core.List.{List, [], ◌∷◌}
use Prim.Native.Nat.{ℕ, zero, suc, ◌+◌, ◌≤◌, ◌<◌}
use native.Mathlib.Nat.{le_refl, zero-add}
use native.Mathlib.Omega.{arith}
use lib.IntN.{ℤ, pos}
use lib.ListN.{replicate, length-replicate}
use Rattle.sentence.specs.Sentences.{Sen, command}
use Rattle.endings.specs.Endings.{normal}
use Rattle.instruction.specs.Instructions.{halt, push_int, numbers, effect}
use Rattle.rules.specs.Machine.{Lent, untouched, fresh, pushed, pairs, names_well, does, tried, run, End, end_of, report, whole_run}
use Rattle.rules.proofs.Tried.{works}
use Rattle.rules.proofs.Pairs.{even, pairs_are, fetched_is}
use Rattle.meaning.specs.Layout.{program_code, program_need}
use Rattle.meaning.proofs.Sizes.{size}
use Rattle.meaning.proofs.Fits.{Fits}
use Rattle.meaning.specs.Meaning.{Store, start, Outcome, done, ended, after, ◌>>◌, give, end_with, unit, declarations, program, meaning}
use Rattle.meaning.proofs.Cells.{cells, length_cells}
use Rattle.meaning.proofs.Laid.{laid_program, Holds, holds_split, holds_code, holds_all}
use Rattle.meaning.proofs.Leads.{finish, finish_after, at, continue, unit_step, halted}
use Rattle.meaning.proofs.Correct.{Runs, runs}

abbrev zeros : ℕ → ℤ
zeros _ = pos 0

-- the end of a Program
abbrev ends : Unit {0} → ℕ → Store → End
ends v n s = record { ending = normal; left = n; outside = s.outside }

meaning_is : (readings : List ℤ) (room d : ℕ) (m : Sen ℕ command) (n : ℕ) → meaning readings room d m n ≡ finish (program readings room d m n start) ends
unfolding meaning
meaning_is readings room d m n = by (program readings room d m n start)
  where
    by : (o : Outcome (Unit {0})) → ◌≡◌ {A = End} (elim o [ done a l s ↦ record { ending = normal; left = l; outside = s.outside } | ended e ↦ e ]) (finish o ends)
    by (done a l s) = unfold finish in refl
    by (ended e) = unfold finish in refl

module _ (lent : Lent) (d : ℕ) where
  -- k declarations are to come, after j
  opened : d ≤ lent.cells → (k j n : ℕ) → j + k ≡ d → Holds lent j (replicate k (push_int (pos 0))) → (K : Unit {0} → ℕ → Store → End) → ((l : ℕ) → end_of (run lent l (at d (cells d zeros) untouched)) ≡ K tt l start) →
      end_of (run lent n (at j (cells j zeros) untouched)) ≡ finish (declarations lent.readings lent.room k n start) K
  unfolding declarations Holds effect names_well does pushed continue cells
  opened c zero j n e h K next = let q : j ≡ d = omega arith in rw q (unfold give finish in next n)
  opened c (suc k) j n e h K next = unit_step lent (push_int (pos 0)) j n (cells j zeros) start (declarations lent.readings lent.room k) K h.0
      (λ m l. rw (← works lent (push_int (pos 0)) (at (suc j) (cells j zeros) untouched) j (omega arith) (omega (arith, length_cells j zeros)) refl (omega (arith, length_cells j zeros))) (opened c k (suc j) m (omega arith) h.1 K next))

  -- the last unit is that of `Halt 0`
  closed : (a n : ℕ) (st : List ℤ) (s : Store) → Holds lent a (halt 0 ∷ []) → end_of (run lent n (at a st s.outside)) ≡ finish (unit n s) ends
  unfolding Holds
  closed a n st s h = unit_step lent (halt 0) a n st s (give tt) ends h.0 (λ m l. stopped m) ∙ by n
    where
      stopped : (m : ℕ) → continue lent (tried lent (halt 0) (at (suc a) st s.outside)) m s.outside ≡ finish (give tt m s) ends
      stopped m = unfold continue give finish in rw (halted lent 0 (suc a) st s.outside)

      by : (n : ℕ) → finish ((unit >> give tt) n s) ends ≡ finish (unit n s) ends
      by zero = unfold ◌>>◌ unit after end_with finish in refl
      by (suc n) = unfold ◌>>◌ unit after give finish in refl

  program_runs : (m : Sen ℕ command) (n : ℕ) → Holds lent 0 (program_code d m) → d + size m < pairs lent → Fits lent.text d m → program_need d m ≤ lent.cells →
      end_of (run lent n fresh) ≡ meaning lent.readings lent.room d m n
  unfolding program_code program_need Runs program ◌>>◌ cells
  program_runs m n h i f r =
      let p = holds_split lent 0 (replicate d (push_int (pos 0))) _ h in
      let q = holds_code lent d m _ (rw (length-replicate, zero-add) at p.1) in
      rw (meaning_is, finish_after) (opened (omega arith) d 0 n (omega arith) p.0 _
      (λ l. rw finish_after ((runs lent d m (suc l) d [] q.0 i f (omega arith)).leads l start _ (le_refl (suc l)) (λ v j t u. closed (d + size m) j (cells d t.variables) t q.1))))

-- for every budget, readings and room, on a stack that is large enough
pub whole : (text : List ℕ) (readings : List ℤ) (room c d : ℕ) (m : Sen ℕ command) (budget : ℕ) → Fits text d m → program_need d m ≤ c →
    whole_run (record { text = text; table = numbers (program_code d m); readings = readings; cells = c; room = room }) budget ≡ report budget (meaning readings room d m budget)
unfolding whole_run
whole text readings room c d m budget f r =
    let lent : Lent = record { text = text; table = numbers (program_code d m); readings = readings; cells = c; room = room } in
    let s = laid_program d m in
    rw (even (program_code d m) s.sound) (ap (report budget) (program_runs lent d m budget (holds_all lent 0 (program_code d m) (λ j. rw zero-add (fetched_is (program_code d m) s.sound lent refl j))) (rw (pairs_are (program_code d m) s.sound lent refl) (omega arith)) f r))
