-- What a budget decides: whether the sentences end by themselves, and nothing else.
use mathlib.Core.Path.{◌≡◌, refl, sym, ap, ◌∙◌}
use mathlib.Core.Logic.{◌≢◌, ◌↔◌}
use mathlib.Core.List.{List}
use Prim.Native.Nat.{ℕ, ◌+◌, ◌-◌, ◌≤◌, ◌<◌}
use native.Mathlib.Decide.{ℕ_discrete, dec_le}
use native.Mathlib.Omega.{arith}
use lib.IntN.{ℤ}
use Rattle.sentence.specs.Sentences.{Sen, command}
use Rattle.endings.specs.Endings.{budget_spent, stack_full, bad_code}
use Rattle.rules.specs.Machine.{End}
use Rattle.meaning.specs.Meaning.{ended, meaning}
use Rattle.meaning.specs.Cost.{Costs, CostsMoreThan}
use Rattle.meaning.proofs.Later.{Later, end, late_end, never, later}

-- an end with n units, and that with k units more
record Kept (n k : ℕ) (e f : End) : Type 0 where
  same : e.ending ≢ budget_spent → f ≡ record { ending = e.ending; left = e.left + k; outside = e.outside }
  all : e.ending ≡ budget_spent → e.left ≡ 0
  late : e.ending ≡ budget_spent → f.ending ≢ budget_spent → f.left < k
  within : e.left ≤ n
  with_room : e.ending ≢ stack_full
  good_code : e.ending ≢ bad_code

kept : {n k : ℕ} {e f : End} → Later {A = Unit {0}} n k (ended e) (ended f) → Kept n k e f
kept (end w h) = record { same = λ q. refl; all = λ q. absurd (w.in_budget q); late = λ q r. absurd (r q); within = h; with_room = w.with_room; good_code = w.good_code }
kept (late_end w h) = record { same = λ q. absurd (q refl); all = λ q. refl; late = λ q r. h; within = omega arith; with_room = omega arith; good_code = omega arith }
kept never = record { same = λ q. absurd (q refl); all = λ q. refl; late = λ q r. absurd (r refl); within = omega arith; with_room = omega arith; good_code = omega arith }

module _ (readings : List ℤ) (room d : ℕ) (m : Sen ℕ command) where
  abbrev ends : ℕ → End
  ends b = meaning readings room d m b

  keeps : (b k : ℕ) → Kept b k (ends b) (ends (b + k))
  keeps b k = kept (later readings room d m b k)

  pub never_bad : (b : ℕ) → ((meaning readings room d m b).ending ≢ stack_full) × ((meaning readings room d m b).ending ≢ bad_code)
  never_bad b = let p = keeps b 0 in (p.with_room, p.good_code)

  -- once a budget is enough, a larger one changes only what is left of it
  pub enough : (b k : ℕ) → (meaning readings room d m b).ending ≢ budget_spent →
      meaning readings room d m (b + k) ≡ record { ending = (meaning readings room d m b).ending; left = (meaning readings room d m b).left + k; outside = (meaning readings room d m b).outside }
  enough b k = (keeps b k).same

  pub all_spent : (b : ℕ) → (meaning readings room d m b).ending ≡ budget_spent → (meaning readings room d m b).left ≡ 0
  all_spent b = (keeps b 0).all

  -- what is used of a budget that is enough is the cost
  pub costs_used : (b : ℕ) → (meaning readings room d m b).ending ≢ budget_spent → Costs readings room d m (b - (meaning readings room d m b).left)
  costs_used b e = record { budget = b; by_itself = e; used = omega (arith, (keeps b 0).within) }

  -- the budget is spent exactly when the sentences cost more
  pub budget : (b : ℕ) → ((meaning readings room d m b).ending ≡ budget_spent) ↔ CostsMoreThan readings room d m b
  budget b = (λ e n c. costs e c (dec_le c.budget b), λ h. spent h (ℕ_discrete (ends b).ending budget_spent))
    where
      costs : (ends b).ending ≡ budget_spent → {n : ℕ} (c : Costs readings room d m n) → Dec (c.budget ≤ b) → b < n
      costs e c (yes h) =
          let q : c.budget + (b - c.budget) ≡ b = omega arith in
          absurd (c.by_itself (sym (ap (λ x. x.ending) (enough c.budget (b - c.budget) c.by_itself)) ∙ ap (λ x. (ends x).ending) q ∙ e))
      costs e c (no h) =
          let q : b + (c.budget - b) ≡ c.budget = omega arith in
          omega (arith, rw q at ((keeps b (c.budget - b)).late e (rw q c.by_itself)), c.used)

      spent : CostsMoreThan readings room d m b → Dec ((ends b).ending ≡ budget_spent) → (ends b).ending ≡ budget_spent
      spent h (yes e) = e
      spent h (no e) = omega (arith, h (b - (ends b).left) (costs_used b e))

  -- there is one cost at most
  pub one_cost : {n p : ℕ} → Costs readings room d m n → Costs readings room d m p → n ≡ p
  one_cost {n} {p} c e = by (dec_le c.budget e.budget)
    where
      ordered : {i j : ℕ} (c : Costs readings room d m i) (e : Costs readings room d m j) → c.budget ≤ e.budget → i ≡ j
      ordered c e h =
          let q : c.budget + (e.budget - c.budget) ≡ e.budget = omega arith in
          omega (arith, rw q at (ap (λ x. x.left) (enough c.budget (e.budget - c.budget) c.by_itself)), c.used, e.used)

      by : Dec (c.budget ≤ e.budget) → n ≡ p
      by (yes h) = ordered c e h
      by (no h) = sym (ordered e c (omega arith))

  -- sentences that cost n units spend every budget below n, and no other
  pub cost_decides : {n : ℕ} → Costs readings room d m n → (b : ℕ) → ((meaning readings room d m b).ending ≡ budget_spent) ↔ (b < n)
  cost_decides {n} c b = (λ e. (budget b).0 e n c, λ h. (budget b).1 (λ p e. omega (arith, one_cost c e)))

  -- and with any other budget they use n
  pub uses : {n : ℕ} → Costs readings room d m n → (b : ℕ) → n ≤ b → b ≡ n + (meaning readings room d m b).left
  uses c b h = omega (arith, one_cost c (costs_used b (λ e. omega (arith, (cost_decides c b).0 e))), (keeps b 0).within)
