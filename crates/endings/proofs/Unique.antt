-- An ending is found again by its number, so that a contract on the number leaves one answer. Assumes nothing.
use Rattle.std.specs.Prelude.{◌≡◌, cond, ℕ, eqb}
use Rattle.std.proofs.Common.{refl, sym, ap, ◌∙◌}
use Rattle.endings.specs.Endings.{number_of}
use Rattle.endings.specs.declared.Ending.{Ending}
use Rattle.endings.specs.declared.Ending.TheVariants.{Normal, StoppedByError, BudgetSpent, NoReadingLeft, OutsideRange, DivisionBy0, StackFull, PrintDoesNotFit, BadCode}

abbrev pub ending_back : ℕ → Ending
ending_back n =
    cond (eqb n 0) Normal
    (cond (eqb n 1) StoppedByError
    (cond (eqb n 2) BudgetSpent
    (cond (eqb n 3) NoReadingLeft
    (cond (eqb n 4) OutsideRange
    (cond (eqb n 5) DivisionBy0
    (cond (eqb n 6) StackFull
    (cond (eqb n 7) PrintDoesNotFit
    BadCode)))))))

pub ending_again : (e : Ending) → ending_back (number_of e) ≡ e
ending_again Normal = refl
ending_again StoppedByError = refl
ending_again BudgetSpent = refl
ending_again NoReadingLeft = refl
ending_again OutsideRange = refl
ending_again DivisionBy0 = refl
ending_again StackFull = refl
ending_again PrintDoesNotFit = refl
ending_again BadCode = refl

pub one_ending : (e f : Ending) → number_of e ≡ number_of f → e ≡ f
one_ending e f h = sym (ending_again e) ∙ ap ending_back h ∙ ending_again f
