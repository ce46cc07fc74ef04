-- Demand 3, from the text's bytes: an accepted text and its own code, run on a stack of at least the need, do what its sentences mean.
use mathlib.Core.Path.{◌≡◌, subst}
use mathlib.Core.Logic.{◌≢◌, ◌↔◌}
use mathlib.Core.List.{List}
use Prim.Native.Nat.{ℕ, ◌≤◌}
use native.Mathlib.Omega.{arith}
use lib.IntN.{ℤ}
use Rattle.limits.specs.Limits.{Limits}
use Rattle.base.specs.Answers.{given}
use Rattle.names.specs.Names.{resolved}
use Rattle.names.proofs.Resolved.{resolved_well}
use Rattle.endings.specs.Endings.{budget_spent, stack_full, bad_code}
use Rattle.instruction.specs.Instructions.{numbers}
use Rattle.rules.specs.Machine.{Report, whole_run, report}
use Rattle.rules.proofs.Listed.{Listed, listed}
use Rattle.meaning.specs.Cost.{Costs, CostsMoreThan}
use Rattle.meaning.proofs.Fits.{Fits, InText}
use Rattle.meaning.proofs.Whole.{whole}
use Rattle.meaning.proofs.Budget.{never_bad, costs_used, budget}
use Rattle.compiler.specs.Compiled.{Accepted, code_of_text, need_of, Named, accepted, Compiled, fits}
use Rattle.compiler.proofs.Decides.{resolves}
use Rattle.kit.specs.Kit.{worked_out}
use Rattle.kit.proofs.Strings.{program_strings}

-- the Program over cells that an accepted text was given for
pub named : {limits : Limits} {text : List ℕ} {n : ℕ} {a : Accepted} → Compiled limits text n (given a) → Named limits text a
named (fits (accepted x _) _) = x

-- the cells of an accepted text's sentences are its own, and its strings stand in the text
pub own : (limits : Limits) (text : List ℕ) (a : Accepted) → Named limits text a → Fits text a.cells a.command
unfolding resolved
own limits text a x =
    let k = resolves limits.declarations x.tree x.are in
    let g = resolved_well limits.declarations (InText text) x.tree k.1 (program_strings text limits.sizes x.parsed.from x.tree x.parsed.lexed.are x.parsed.whole) in
    subst (λ (y : Accepted). Fits text y.cells y.command) k.2 g.each

module _ (limits : Limits) (text : List ℕ) (n : ℕ) (a : Accepted) (compiled : Compiled limits text n (given a)) where
  module _ (readings : List ℤ) (room cells budget_given : ℕ) (enough : need_of a ≤ cells) where
    abbrev run_of : Report
    run_of = whole_run (record { text = text; table = numbers (code_of_text a); readings = readings; cells = cells; room = room }) budget_given

    -- ending, output, readings used and steps are those worked out from the sentences alone
    pub faithful : run_of ≡ worked_out readings room budget_given a
    unfolding code_of_text need_of worked_out
    faithful = whole text readings room cells a.cells a.command budget_given (own limits text a (named compiled)) enough

    pub never_bad_code : run_of.ending ≢ bad_code
    unfolding worked_out report
    never_bad_code = rw faithful (never_bad readings room a.cells a.command budget_given).1

    pub never_stack_full : run_of.ending ≢ stack_full
    unfolding worked_out report
    never_stack_full = rw faithful (never_bad readings room a.cells a.command budget_given).0

    -- by the budget exactly when the sentences cost more
    pub spent_if_dearer : (run_of.ending ≡ budget_spent) ↔ CostsMoreThan readings room a.cells a.command budget_given
    unfolding worked_out report
    spent_if_dearer = rw faithful (budget readings room a.cells a.command budget_given)

    -- where it ends by itself, its steps are the cost
    pub steps_are_the_cost : run_of.ending ≢ budget_spent → Costs readings room a.cells a.command run_of.steps
    unfolding worked_out report
    steps_are_the_cost h = rw faithful (costs_used readings room a.cells a.command budget_given (rw faithful at h))

  -- what its sentences come to ends with one of the nine endings
  pub ends_listed : (readings : List ℤ) (room budget_given : ℕ) → Listed (worked_out readings room budget_given a).ending
  ends_listed readings room budget_given = subst (λ (r : Report). Listed r.ending) (faithful readings room (need_of a) budget_given (omega arith)) (listed _ budget_given)
