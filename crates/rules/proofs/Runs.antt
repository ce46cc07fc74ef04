-- Laws of a run: one step of it, a table of even and of odd length, and no budget. Assumes nothing.
use mathlib.Core.Path.{◌≡◌, refl}
use mathlib.Core.List.{[]}
use Prim.Native.Nat.{ℕ, suc, ◌%◌}
use lib.ListN.{length}
use borrow.Author.Tests.{eq-eqb, ne_eqb}
use Rattle.endings.specs.Endings.{budget_spent, bad_code}
use Rattle.rules.specs.Machine.{Lent, Machine, fresh, go, stop, step, run, end_of, report, whole_run}

module _ (lent : Lent) (n : ℕ) (m : Machine) where
  pub run_goes : {m' : Machine} → go m' ≡ step lent m → run lent (suc n) m ≡ run lent n m'
  unfolding run
  run_goes e = rw (← e, run)

  pub run_stops : {e : ℕ} → stop e ≡ step lent m → run lent (suc n) m ≡ record { ending = e; left = n; machine = m }
  unfolding run
  run_stops e = rw (← e, run) refl

module _ (lent : Lent) where
  pub even_table : (budget : ℕ) → length lent.table % 2 ≡ 0 → whole_run lent budget ≡ report budget (end_of (run lent budget fresh))
  unfolding whole_run
  even_table budget h = rw (eq-eqb (length lent.table % 2) 0 h)

  pub odd_table : (budget : ℕ) → (length lent.table % 2 ≡ 0 → ⊥) → whole_run lent budget ≡ record { ending = bad_code; steps = 0; used = 0; output = [] }
  unfolding whole_run
  odd_table budget h = rw (ne_eqb (length lent.table % 2) 0 h)

  -- steps equal to the budget is ending 2: with no budget nothing is done
  pub no_budget : length lent.table % 2 ≡ 0 → whole_run lent 0 ≡ record { ending = budget_spent; steps = 0; used = 0; output = [] }
  unfolding whole_run report run
  no_budget h = rw (eq-eqb (length lent.table % 2) 0 h) refl
