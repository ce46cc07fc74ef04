-- A contract that is an equation leaves one result: on the result, for every public function whose contract is `r ≡ ..`; on what it means, where that leads back to it. Assumes nothing.
use mathlib.Core.Path.{◌≡◌, sym, ap, ◌∙◌}

pub one : {A : Type 0} {is r r' : A} → r ≡ is → r' ≡ is → r ≡ r'
one e e' = e ∙ sym e'

-- two things with one image agree where something leads back from it
pub same_by : {A B : Type 0} (f : A → B) (back : B → A) → ((a : A) → back (f a) ≡ a) → (a b : A) → f a ≡ f b → a ≡ b
same_by f back h a b e = sym (h a) ∙ ap back e ∙ h b
